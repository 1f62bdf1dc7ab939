use Rattle.std.proofs.Common.{◌∙◌, ℕ, ap, inl, inr, arith}
use borrow.Author.Count.{below_more}
use Rattle.std.proofs.lemmas.Bool.{cases_lt}
use Rattle.tree_planner.specs.SearchingBack.{far_at, wave_of, AreInto}
use Rattle.tree_planner.proofs.ImprovedBack.{all_into_kept, at_kept, improves_trans}
use Rattle.wave_problem.proofs.Bound.{pending_known}
use Rattle.tree_planner.proofs.back.over_all.Goals as goal

pub over_split-requires-clause-at : goal.over_split-requires-clause-at
over_split-requires-clause-at c =
    at_kept c.args.search.now c.loop-t.search c.loop-t.invariant.improves c.args.node c.requires.at

pub loop-t-preserved : goal.loop-t-preserved
loop-t-preserved c =
    let h = c.args.hollow.now in
    let old = c.loop-t.search in
    let new = c.over_split.new.search in
    let i = c.over_split.ensures.improves in
    let at = at_kept c.args.search.now old c.loop-t.invariant.improves c.args.node c.requires.at in
    record {
      hole = c.over_split.ensures.hole ∙ c.loop-t.invariant.hole;
      searching = c.over_split.ensures.searching;
      improves = improves_trans c.args.search.now old new c.loop-t.invariant.improves i;
      over = below_more (λ (t : ℕ). AreInto h new c.args.node t) c.loop-t.t
          (λ t l. all_into_kept old new i.nearer h c.args.node t at.settled (c.loop-t.invariant.over t l))
          c.over_split.ensures.over;
    }

pub returns-clause-over : goal.returns-clause-over
returns-clause-over c = λ t x is.
    (let h = c.args.hollow.now in
    elim (cases_lt t c.loop-t.t) [
      | inl l ↦ c.loop-t.invariant.over t l x is
      | inr past ↦ absurd
          (let l = pending_known (wave_of h) t is.pending in
          let size = c.requires.hollow.standing.tables.places in
          omega arith)
    ])

pub returns-then-search-far-clause-over : goal.returns-then-search-far-clause-over
returns-then-search-far-clause-over c = λ t x is.
    (let cheapest = c.requires.hollow.standing.kept.cheapest in
    let near = c.far_of-far.ensures in
    let kept = c.loop-t.invariant.improves.nearer.settled c.args.node c.requires.at.settled in
    record {
      over = λ e stands at.
          (let least = cheapest.least t e x stands is in
          let far = ap (λ v. far_at c.loop-t.search v) at in
          omega arith);
      waits = λ waits at. (let above = cheapest.waiting t x waits is in omega arith);
    })
