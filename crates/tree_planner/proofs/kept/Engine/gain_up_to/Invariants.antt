use Rattle.tree_planner.specs.Going.{HasLine}
use Rattle.tree_planner.proofs.kept.Engine.gain_up_to.Given as goal

abbrev pub invariant-loop-slots : goal.invariant-loop-slots
invariant-loop-slots l =
    HasLine l.fn.self.wave l.self.wave l.worker (record { live = l.fn.line.live; free = l._slots })
