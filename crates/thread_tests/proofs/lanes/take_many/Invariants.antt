use Rattle.std.proofs.Common.{◌≡◌, ◌≤◌, ◌++◌, length, vec_capacity}
use Rattle.thread_tests.proofs.lanes.take_many.Given as goal

abbrev pub invariant-loop : goal.invariant-loop
invariant-loop g l =
    (l.pass ≡ record l.fn.pass { takes = l.fn.pass.takes ++ l.taken.items })
    × (length l.taken.items ≡ l.counter) × (l.fn.count ≤ vec_capacity l.taken)
