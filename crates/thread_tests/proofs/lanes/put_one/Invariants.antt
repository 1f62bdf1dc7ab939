use Rattle.std.proofs.Common.{◌≡◌}
use Rattle.thread_tests.proofs.lanes.put_one.Given as goal

abbrev pub invariant-loop : goal.invariant-loop
invariant-loop g l = (l.pass ≡ l.fn.pass) × (l.waiting ≡ l.fn.order)
