use Rattle.std.specs.Prelude.{◌≡◌}
use Rattle.std.specs.List.{All}
use Rattle.thread_tests.proofs.lanes.start_each.Given as goal

abbrev pub invariant-loop-pass : goal.invariant-loop-pass
invariant-loop-pass g l =
    All (λ p. p.lane ≡ l.lane.lane) l.pass-iterator.rest.items
    × All (λ t. t.promise.0.now.lane ≡ l.lane.lane) l.threads.items
