use Rattle.std.proofs.Common.{◌∙◌, ap, arith, sym}
use Rattle.std.proofs.lemmas.Bool.{false≢true}
use Rattle.tree_planner.specs.Ends.{ends_at}
use Rattle.tree_planner.specs.Searching.{wave_of, IsOutBy, IsStartedAt}
use Rattle.tree_planner.proofs.Covered.{inner_above, inner_entry, start_covers}
use Rattle.tree_planner.proofs.Grouped.{of_below}
use Rattle.tree_planner.proofs.Improved.{improves_trans, start_kept}
use Rattle.tree_planner.proofs.search.start_below.Goals as goal

pub returns-then-not-is_inner-clause-started : goal.returns-then-not-is_inner-clause-started
returns-then-not-is_inner-clause-started c =
    let g = c.args.ground.now in
    of_below (wave_of g).tree (IsOutBy g c.args.ends.now) c.args.top c.args.level (λ x. IsStartedAt g c.args.search.now x)
    (λ v left. absurd (false≢true (sym c.if-not-is_inner.true
    ∙ c.is_inner.ensures.1 (inner_above g c.requires.ground c.args.top v left.0))))

pub of-requires : goal.of-requires
of-requires c =
    inner_entry (wave_of c.args.ground.now).tree c.start_all.new.search.covers c.args.top
    c.start_all.ensures.searching.tables.covers (c.is_inner.ensures.0 c.if-not-is_inner.false)

pub cover-requires : goal.cover-requires
cover-requires c =
    inner_entry (wave_of c.args.ground.now).tree c.start_all.new.search.covers c.args.top
    c.start_all.ensures.searching.tables.covers (c.is_inner.ensures.0 c.if-not-is_inner.false)

pub returns-then-offset-of-clause-searching : goal.returns-then-offset-of-clause-searching
returns-then-offset-of-clause-searching c =
    let g = c.args.ground.now in
    let new = c.start_all.new.search in
    let same = c.start_all.ensures.improves.nearer.split in
    let cost = c.end_cost.ensures.cost in
    let known = c.requires.split in
    c.cover.ensures.kept g c.start_all.ensures.searching
    (start_covers g new c.args.ends.now c.args.top c.args.level c.start_all.ensures.searching (omega arith)
    (c.requires.ends ∙ ap (λ s. ends_at g.ends.now s) (sym same)) _ (omega arith) c.start_all.ensures.started)

pub returns-then-offset-of-clause-improves : goal.returns-then-offset-of-clause-improves
returns-then-offset-of-clause-improves c =
    improves_trans c.args.search.now c.start_all.new.search c.cover.new.self c.start_all.ensures.improves
    c.cover.ensures.improves

pub returns-then-offset-of-clause-started : goal.returns-then-offset-of-clause-started
returns-then-offset-of-clause-started c = λ x of.
    start_kept c.start_all.new.search c.cover.new.self c.cover.ensures.improves.nearer c.args.ground.now x
    (c.start_all.ensures.started x of)
