use Rattle.std.proofs.Common.{◌≡◌, ℕ, ◌-◌, Bool, sym, subst, ap, ◌∙◌, arith}
use Rattle.std.specs.Prelude.{slice_set}
use Rattle.wave_problem.specs.Wave.{worker_at, Wave}
use Rattle.tree_flow.specs.Slots.{with_workers}
use Rattle.tree_planner.specs.declared.engine.Fixed.{Fixed}
use Rattle.tree_planner.specs.Engine.{IsFixed, IsStanding}
use Rattle.tree_planner.specs.Events.{slot_less}
use Rattle.tree_planner.proofs.Started.{removed_fixed, removed_standing, usable}
use Rattle.tree_planner.proofs.events.remove_slot.Goals as goal

pub overflow_sub-free : goal.overflow_sub-free
overflow_sub-free c =
    let u = usable c.args.problem.now c.args.tables.now c.args.worker c.requires.worker c.requires.standing in
    let some = u.1 in
    let is = c.free-free.ensures.slots in
    omega arith

pub returns-clause-usable : goal.returns-clause-usable
returns-clause-usable c =
    usable c.args.problem.now c.args.tables.now c.args.worker c.requires.worker c.requires.standing

pub returns-clause-fixed : goal.returns-clause-fixed
returns-clause-fixed c =
    let wave = c.args.problem.now in
    let w = c.args.worker in
    let fixed = c.args.fixed.now in
    let new : Fixed = record fixed { slots = c.one_less_above.new.numbers } in
    let line = λ (b : Bool) (n : ℕ). with_workers wave (slice_set wave.workers w
    (record { live = b; free = n - 1 })) in
    let is : c.set_worker.new.self ≡ slot_less wave w = c.set_worker.ensures
    ∙ ap (λ b. line b c.free-free.result) c.is_live-live.ensures
    ∙ ap (λ n. line (worker_at wave w).live n) c.free-free.ensures.slots in
    subst (λ (x : Wave). IsFixed x new) (sym is)
    (removed_fixed wave c.args.tables.now w c.requires.worker c.requires.standing fixed
    c.one_less_above.new.numbers
    c.requires.fixed c.one_less_above.ensures.size c.one_less_above.ensures.less)

pub returns-clause-standing : goal.returns-clause-standing
returns-clause-standing c =
    let wave = c.args.problem.now in
    let w = c.args.worker in
    let line = λ (b : Bool) (n : ℕ). with_workers wave (slice_set wave.workers w
    (record { live = b; free = n - 1 })) in
    let is : c.set_worker.new.self ≡ slot_less wave w = c.set_worker.ensures
    ∙ ap (λ b. line b c.free-free.result) c.is_live-live.ensures
    ∙ ap (λ n. line (worker_at wave w).live n) c.free-free.ensures.slots in
    subst (λ (x : Wave). IsStanding x c.args.tables.now) (sym is)
    (removed_standing wave c.args.tables.now w c.requires.worker c.requires.standing)
