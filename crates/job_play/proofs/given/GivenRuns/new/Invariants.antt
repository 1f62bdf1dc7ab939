use Rattle.std.proofs.Common.{◌≡◌, [], map, replicate}
use Rattle.job_play.specs.Given.{Runs}
use Rattle.job_play.proofs.given.GivenRuns.new.Given as goal

abbrev pub invariant-loop : goal.invariant-loop
invariant-loop l = map (λ runs. runs.items) l.of_parts.items ≡ replicate {A = Runs} l.counter []
