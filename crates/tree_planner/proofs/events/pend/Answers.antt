use Rattle.std.proofs.Common.{◌≡◌, ℕ, ◌↔◌, ◌∙◌, true, refl, sym, subst}
use Rattle.std.specs.Prelude.{slice_set}
use Rattle.std.proofs.lemmas.Bool.{false≢true}
use Rattle.wave_problem.specs.Wave.{Wave}
use Rattle.tree_flow.specs.declared.nodes.End.{End}
use Rattle.tree_flow.specs.declared.nodes.Place.TheVariants.{Stands, Unshipped}
use Rattle.tree_flow.specs.Nodes.{IsEnd}
use Rattle.tree_flow.specs.State.{place_of}
use Rattle.tree_flow.proofs.Moved.{here_now}
use Rattle.tree_planner.specs.View.{state_of}
use Rattle.tree_planner.specs.declared.engine.Fixed.{Fixed}
use Rattle.tree_planner.specs.Ends.{AreEnds, HasEnd}
use Rattle.tree_planner.specs.Engine.{IsFixed, IsStanding}
use Rattle.tree_planner.specs.Events.{with_pending}
use Rattle.tree_planner.proofs.Pending.{ends_set, pending_fixed, pending_standing}
use Rattle.tree_planner.proofs.events.pend.Goals as goal

pub lay_off-requires-clause-idle : goal.lay_off-requires-clause-idle
lay_off-requires-clause-idle c = λ e stands.
    false≢true (sym c.requires.idle ∙ (c.requires.standing.kept.cheapest.ends c.args.split e
    (subst (λ (s : ℕ). place_of (state_of c.args.tables.now) s ≡ Stands e) c.index-2.ensures.value
    stands)).pending)

pub returns-clause-fixed : goal.returns-clause-fixed
returns-clause-fixed c =
    let wave = c.args.problem.now in
    let s = c.args.split in
    let fixed = c.args.fixed.now in
    let known = c.requires.split in
    let list = c.in_ok-ends.ends in
    let new : Fixed = record fixed { ends = c.put.new.self } in
    let is = c.in_ok-ends.ensures.wave in
    let ends : AreEnds (with_pending wave s true) new.ends =
    subst (λ ends. AreEnds (with_pending wave s true) ends) (sym c.put.ensures)
    (subst (λ i. AreEnds (with_pending wave s true) (slice_set fixed.ends i list))
    (sym c.index.ensures.value) (ends_set wave s true known fixed.ends list c.requires.fixed.ends
    (subst (λ (w : Wave). (e : End) → HasEnd w.tree list e ↔ IsEnd w s e) is c.in_ok-ends.ensures.ends))) in
    subst (λ (w : Wave). IsFixed w new) (sym is) (pending_fixed wave s true known fixed new
    c.requires.fixed ends refl)

pub returns-clause-standing : goal.returns-clause-standing
returns-clause-standing c =
    let wave = c.args.problem.now in
    let t = c.lay_off.new.tables in
    subst (λ (w : Wave). IsStanding w t) (sym c.in_ok-ends.ensures.wave)
    (pending_standing wave c.args.split true c.requires.split t
    (subst (λ (s : ℕ). place_of (state_of t) s ≡ Unshipped) c.index-2.ensures.value
    (here_now wave (state_of c.args.tables.now) (state_of t) c.index-2.result Unshipped
    c.lay_off.ensures.placed))
    (c.lay_off.ensures.standing wave c.requires.standing))
