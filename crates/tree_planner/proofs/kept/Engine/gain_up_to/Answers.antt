use Rattle.std.proofs.Common.{◌∙◌, ap, inl, inr, arith}
use Rattle.std.proofs.lemmas.Bool.{cases_Bool}
use Rattle.wave_problem.specs.declared.lines.WorkerLine.{WorkerLine}
use Rattle.wave_problem.specs.Wave.{worker_at, Wave}
use Rattle.tree_planner.proofs.Gained.{line_at_first, line_with_more}
use Rattle.tree_planner.proofs.kept.Engine.gain_up_to.Goals as goal

pub free-requires-clause-worker : goal.free-requires-clause-worker
free-requires-clause-worker c = omega (arith, c.loop-slots.invariant.size)

pub free-requires-clause-live : goal.free-requires-clause-live
free-requires-clause-live c =
    ap (λ (l : WorkerLine). l.live) c.loop-slots.invariant.here
    ∙ elim (cases_Bool c.args.line.live) [
      | inl is ↦ is
      | inr dead ↦ absurd (let same = c.requires.dead dead in let from = c.free-slots.ensures.slots
          ∙ ap (λ (x : Wave). (worker_at x c.args.worker).free) c.problem.ensures in omega arith)
    ]

pub free-requires-clause-room : goal.free-requires-clause-room
free-requires-clause-room c =
    (let free = ap (λ (l : WorkerLine). l.free) c.loop-slots.invariant.here in omega arith)

pub loop-slots-init : goal.loop-slots-init
loop-slots-init c =
    line_at_first c.args.self.now.wave c.args.worker c.args.line.live c.free-slots.result c.requires.live
    (c.free-slots.ensures.slots ∙ ap (λ (x : Wave). (worker_at x c.args.worker).free) c.problem.ensures)

pub loop-slots-preserved : goal.loop-slots-preserved
loop-slots-preserved c =
    line_with_more c.args.self.now.wave c.loop-slots.self.wave c.free.new.self.wave c.args.worker
    (record { live = c.args.line.live; free = c.loop-slots._slots })
    (omega (arith, c.loop-slots.invariant.size))
    c.loop-slots.invariant c.in_ok-free.ensures.wave
