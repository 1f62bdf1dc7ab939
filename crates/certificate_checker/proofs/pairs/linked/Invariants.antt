use Rattle.std.proofs.Common.{length}
use Rattle.certificate_checker.specs.Slots.{node_at, nodes_at, slot_at, AreLinked}
use Rattle.certificate_checker.proofs.pairs.linked.Given as goal

abbrev pub invariant-loop-place : goal.invariant-loop-place
invariant-loop-place l =
    AreLinked (λ k. node_at l.checker.wave.tree l.fn.level (slot_at l.slots k).worker)
    (nodes_at l.checker.wave.tree l.fn.level) (length l.slots) l.chain l.place
