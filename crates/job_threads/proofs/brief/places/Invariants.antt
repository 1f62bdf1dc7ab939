use Rattle.std.proofs.Common.{◌≡◌, map, take}
use Rattle.job_threads.specs.Steps.{places}
use Rattle.job_threads.proofs.brief.places.Given as goal

abbrev pub invariant-loop-count : goal.invariant-loop-count
invariant-loop-count l = l.made.items ≡ map (places l.waves) (take l.count-index l.slots)
