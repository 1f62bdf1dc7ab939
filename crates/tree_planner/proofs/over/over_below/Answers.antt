use Rattle.std.proofs.Common.{◌≡◌, ◌∙◌, ap, arith, subst, sym}
use Rattle.std.proofs.lemmas.Bool.{false≢true}
use Rattle.tree_planner.specs.declared.covers.Cover.{Cover}
use Rattle.tree_planner.specs.Searching.{wave_of, cover_at, IsCovered, IsOutBy, IsOverTo}
use Rattle.tree_planner.proofs.Covered.{leaving_kept, inner_above, inner_entry, over_covers, rest_over}
use Rattle.tree_planner.proofs.Grouped.{of_below}
use Rattle.tree_planner.proofs.Improved.{cover_kept, improves_trans}
use Rattle.tree_planner.proofs.over.over_below.Goals as goal

pub returns-then-not-is_inner-clause-over : goal.returns-then-not-is_inner-clause-over
returns-then-not-is_inner-clause-over c =
    let g = c.args.ground.now in
    let m = c.args.leaving in
    of_below (wave_of g).tree (IsOutBy g c.args.ends.now) c.args.top c.args.level (λ x. IsOverTo g c.args.search.now m.end m.split x)
    (λ v left. absurd (false≢true (sym c.if-not-is_inner.true
    ∙ c.is_inner.ensures.1 (inner_above g c.requires.ground c.args.top v left.0))))

pub of-cover-requires : goal.of-cover-requires
of-cover-requires c =
    inner_entry (wave_of c.args.ground.now).tree c.args.search.now.covers c.args.top c.requires.searching.tables.covers
    (c.is_inner.ensures.0 c.if-not-is_inner.false)

pub cover-requires : goal.cover-requires
cover-requires c =
    inner_entry (wave_of c.args.ground.now).tree c.over_all.new.search.covers c.args.top
    c.over_all.ensures.searching.tables.covers (c.is_inner.ensures.0 c.if-not-is_inner.false)

pub over_rest-requires-clause-other : goal.over_rest-requires-clause-other
over_rest-requires-clause-other c =
    let old = c.args.search.now in
    let covered = c.requires.searching.covered c.args.top in
    let is = ap (λ (x : Cover). x.split) c.of-cover.ensures in
    let known = covered.known in
    omega arith

pub returns-then-cover-offset-clause-over : goal.returns-then-cover-offset-clause-over
returns-then-cover-offset-clause-over c =
    let g = c.args.ground.now in
    let m = c.args.leaving in
    let Out = IsOutBy g c.args.ends.now in
    let old = c.args.search.now in
    let new = c.over_rest.new.search in
    let i = c.over_rest.ensures.improves in
    let cover = c.of-cover.result in
    let is : cover ≡ cover_at old c.args.top = c.of-cover.ensures in
    let covered : IsCovered g new cover c.args.top =
    cover_kept old new i.nearer g cover c.args.top
    (subst (λ cover. IsCovered g old cover c.args.top) (sym is) (c.requires.searching.covered c.args.top)) in
    let cost = c.end_cost.ensures.cost in
    let worth = c.requires.ground.worth in
    let less = c.if-cover-offset.true in
    let spent = c.requires.leaving.spent in
    let below = c.requires.ground.kept.cheapest.below_waiting m.split m.end c.requires.leaving.stands in
    of_below (wave_of g).tree Out c.args.top c.args.level (λ x. IsOverTo g new m.end m.split x)
    (rest_over g new m Out c.args.top c.args.level
    (leaving_kept g old new i m c.requires.leaving) cover covered (omega arith) c.over_rest.ensures.over)

pub returns-else-cover-offset-clause-searching : goal.returns-else-cover-offset-clause-searching
returns-else-cover-offset-clause-searching c =
    let g = c.args.ground.now in
    let m = c.args.leaving in
    let old = c.args.search.now in
    let new = c.over_all.new.search in
    let i = c.over_all.ensures.improves in
    let cost = c.end_cost.ensures.cost in
    let worth = c.requires.ground.worth in
    let spent = c.requires.leaving.spent in
    let below = c.requires.ground.kept.cheapest.below_waiting m.split m.end c.requires.leaving.stands in
    c.cover.ensures.kept g c.over_all.ensures.searching
    (over_covers g new m c.args.ends.now c.args.top c.args.level (leaving_kept g old new i m c.requires.leaving)
    c.requires.ends _ (omega arith) c.over_all.ensures.over)

pub returns-else-cover-offset-clause-improves : goal.returns-else-cover-offset-clause-improves
returns-else-cover-offset-clause-improves c =
    improves_trans c.args.search.now c.over_all.new.search c.cover.new.self c.over_all.ensures.improves
    c.cover.ensures.improves

pub overflow_add-offset-2 : goal.overflow_add-offset-2
overflow_add-offset-2 c =
    let most = c.end_cost.ensures.most in
    let at = c.requires.leaving.at.reached in
    let far = c.requires.leaving.far in
    let limit = c.requires.searching.limit in
    let small = c.requires.ground.small in
    let worth = c.requires.ground.worth in
    omega arith
