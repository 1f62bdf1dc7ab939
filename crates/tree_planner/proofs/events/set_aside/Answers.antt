use Rattle.std.proofs.Common.{◌↔◌, false, refl, sym, subst}
use Rattle.std.specs.Prelude.{[]}
use Rattle.std.specs.Prelude.{slice_set}
use Rattle.wave_problem.specs.Wave.{Wave}
use Rattle.tree_flow.specs.Nodes.{IsEnd}
use Rattle.tree_planner.specs.declared.engine.Fixed.{Fixed}
use Rattle.tree_planner.specs.Ends.{AreEnds, HasEnd, IsBarred}
use Rattle.tree_planner.proofs.Grouped.{none_among}
use Rattle.tree_planner.specs.Engine.{IsFixed, IsStanding}
use Rattle.tree_planner.specs.Events.{with_pending}
use Rattle.tree_planner.proofs.Pending.{ends_set, none_ends, pending_fixed, pending_standing}
use Rattle.tree_planner.proofs.events.set_aside.Goals as goal

pub returns-clause-none : goal.returns-clause-none
returns-clause-none c = λ e is.
    (let wave = c.args.problem.now in
    let has = (none_ends wave c.args.split c.requires.split e).1
    (subst (λ (w : Wave). IsEnd w c.args.split e) c.set_pending.ensures is) in
    none_among wave.tree (IsBarred wave.tree []) e has)

pub returns-clause-fixed : goal.returns-clause-fixed
returns-clause-fixed c =
    let wave = c.args.problem.now in
    let s = c.args.split in
    let fixed = c.args.fixed.now in
    let known = c.requires.split in
    let new : Fixed = record fixed { ends = c.put.new.self } in
    let ends : AreEnds (with_pending wave s false) new.ends =
    subst (λ ends. AreEnds (with_pending wave s false) ends) (sym c.put.ensures)
    (subst (λ i. AreEnds (with_pending wave s false) (slice_set fixed.ends i c.none.result))
    (sym c.index.ensures.value) (ends_set wave s false known fixed.ends c.none.result
    c.requires.fixed.ends
    (λ e. subst (λ xs. HasEnd wave.tree xs e ↔ IsEnd (with_pending wave s false) s e) (sym c.none.ensures)
    (none_ends wave s known e)))) in
    subst (λ (w : Wave). IsFixed w new) (sym c.set_pending.ensures)
    (pending_fixed wave s false known fixed new c.requires.fixed ends refl)

pub returns-clause-standing : goal.returns-clause-standing
returns-clause-standing c =
    let wave = c.args.problem.now in
    subst (λ (w : Wave). IsStanding w c.args.tables.now) (sym c.set_pending.ensures)
    (pending_standing wave c.args.split false c.requires.split c.args.tables.now c.requires.unshipped
    c.requires.standing)
