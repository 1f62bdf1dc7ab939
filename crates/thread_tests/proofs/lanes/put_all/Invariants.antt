use Rattle.std.proofs.Common.{◌≡◌, ◌++◌}
use Rattle.thread_tests.proofs.lanes.put_all.Given as goal

abbrev pub invariant-loop-order : goal.invariant-loop-order
invariant-loop-order g l = l.pass ≡ record l.fn.pass { puts = l.fn.pass.puts ++ l.yielded }
