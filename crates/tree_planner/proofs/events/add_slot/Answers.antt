use Rattle.std.proofs.Common.{◌≡◌, ℕ, ◌+◌, Bool, Some, sym, subst, ap, ◌∙◌, arith}
use Rattle.std.specs.Prelude.{slice_set}
use Rattle.wave_problem.specs.Wave.{worker_at, Wave}
use Rattle.tree_flow.specs.declared.nodes.TreeNode.TheVariants.{Worker}
use Rattle.tree_flow.specs.Slots.{with_workers}
use Rattle.tree_flow.proofs.Under.{slots-most}
use Rattle.tree_planner.specs.declared.engine.Fixed.{Fixed}
use Rattle.tree_planner.specs.Engine.{IsFixed, IsStandingBut}
use Rattle.tree_planner.specs.Events.{slot_more}
use Rattle.tree_planner.proofs.Lines.{added_fixed, added_standing}
use Rattle.tree_planner.proofs.events.add_slot.Goals as goal

pub add_above-requires-clause-small : goal.add_above-requires-clause-small
add_above-requires-clause-small c = λ v.
    (let sum = c.requires.fixed.slots v in
    let most = slots-most c.args.problem.now c.limits.ensures.problem v in
    omega arith)

pub returns-clause-fixed : goal.returns-clause-fixed
returns-clause-fixed c =
    let wave = c.args.problem.now in
    let w = c.args.worker in
    let fixed = c.args.fixed.now in
    let new : Fixed = record fixed { slots = c.add_above.new.numbers } in
    let line = λ (b : Bool) (n : ℕ). with_workers wave (slice_set wave.workers w
    (record { live = b; free = n + 1 })) in
    let is : c.set_worker.new.self ≡ slot_more wave w = c.set_worker.ensures
    ∙ ap (λ b. line b c.free-free.result) c.is_live-live.ensures
    ∙ ap (λ n. line (worker_at wave w).live n) c.free-free.ensures.slots in
    subst (λ (x : Wave). IsFixed x new) (sym is)
    (added_fixed wave fixed c.add_above.new.numbers w c.requires.worker c.requires.live c.requires.fixed
    c.add_above.ensures.size c.add_above.ensures.added)

pub returns-clause-standing : goal.returns-clause-standing
returns-clause-standing c =
    let wave = c.args.problem.now in
    let w = c.args.worker in
    let line = λ (b : Bool) (n : ℕ). with_workers wave (slice_set wave.workers w
    (record { live = b; free = n + 1 })) in
    let is : c.set_worker.new.self ≡ slot_more wave w = c.set_worker.ensures
    ∙ ap (λ b. line b c.free-free.result) c.is_live-live.ensures
    ∙ ap (λ n. line (worker_at wave w).live n) c.free-free.ensures.slots in
    subst (λ (x : Wave). IsStandingBut x c.deepen_above.new.tables (Some (Worker w))) (sym is)
    (added_standing wave c.deepen_above.new.tables w c.requires.worker c.requires.live
    c.deepen_above.ensures.standing
    c.deepen_above.ensures.above)
