use Rattle.std.proofs.Common.{◌≡◌, ℕ, ◌-◌, ◌<◌, ◌∙◌, sym, ap, subst, inl, inr, arith}
use Rattle.std.proofs.lemmas.Bool.{cases_lt}
use Rattle.std.proofs.lemmas.List.{get_or_default}
use Rattle.tree_flow.specs.declared.nodes.TreeNode.TheVariants.{Cluster}
use Rattle.tree_planner.specs.declared.lists.Cell.{Cell}
use Rattle.tree_planner.specs.Listing.{at_cell}
use Rattle.tree_planner.specs.Searching.{GoesAllOver}
use Rattle.tree_planner.proofs.Improved.{at_kept, improves_trans, over_kept}
use Rattle.tree_planner.proofs.search.look_over.Goals as goal

pub loop-place-preserved : goal.loop-place-preserved
loop-place-preserved c =
    let g = c.args.ground.now in
    let lists = g.tables.now.standing in
    let cells = lists.cells.items in
    let place = c.loop-place.place in
    let l = c.requires.ground.tables.lists in
    let i = c.loop-place.invariant in
    let within = i.within in
    let some = c.loop-place-test.true in
    let old = c.loop-place.search in
    let new = c.over_split.new.search in
    let improves = c.over_split.ensures.improves in
    let at = at_kept c.args.search.now old i.improves c.args.node c.requires.at in
    let room = l.within in
    let cell : c.index-cell.result.now ≡ at_cell cells (place - 1) =
    c.index-cell.ensures ∙ get_or_default cells (place - 1) c.index-cell.result.now (record { node = Cluster; split = 0; before = 0 })
    (omega arith) in
    let before = ap (λ (x : Cell). x.before) cell in
    let last = l.before (place - 1) (omega arith) in
    let here = i.here (omega arith) in
    let most = last.within in
    record {
      searching = c.over_split.ensures.searching;
      improves = improves_trans c.args.search.now old new i.improves improves;
      within = omega arith;
      here = λ more. subst (λ (n : ℕ). 0 < n → (at_cell cells (n - 1)).node ≡ c.args.node) (sym before)
          (λ m. last.here m ∙ here) more;
      over = λ k from to is. elim (cases_lt k place) [
        | inr past ↦ over_kept old new improves.nearer g c.args.node (at_cell cells k).split at.settled
            (i.over k past to is)
        | inl less ↦ elim (cases_lt k (place - 1)) [
          | inl between ↦ absurd (last.none k (omega arith) between (is ∙ sym here))
          | inr now ↦
              (let e : k ≡ place - 1 = omega arith in
              subst (λ t. GoesAllOver g new c.args.node t)
              (ap (λ (x : Cell). x.split) cell ∙ ap (λ (k : ℕ). (at_cell cells k).split) (sym e))
              c.over_split.ensures.over)
        ]
      ];
    }

pub returns-clause-over : goal.returns-clause-over
returns-clause-over c = λ t.
    (let g = c.args.ground.now in
    let i = c.loop-place.invariant in
    let done : c.loop-place.place ≡ 0 = omega arith in
    record {
      over = λ e x stands is is_end.
          (let has = c.requires.ground.tables.listed t e stands in
          (subst (λ t. GoesAllOver g c.loop-place.search c.args.node t) has.split
          (i.over has.place (omega arith) has.used (has.node ∙ is))).over e x stands is is_end);
      out = λ e stands is.
          (let has = c.requires.ground.tables.listed t e stands in
          (subst (λ t. GoesAllOver g c.loop-place.search c.args.node t) has.split
          (i.over has.place (omega arith) has.used (has.node ∙ is))).out e stands is);
    })
