use Rattle.std.proofs.Common.{◌≡◌, ◌<◌, map, take}
use Rattle.std.specs.Prelude.{All, IfSome}
use Rattle.wave_arrays.specs.Claims.{start_in}
use Rattle.wave_arrays.proofs.claims.listed.Given as goal

abbrev pub invariant-loop-start : goal.invariant-loop-start
invariant-loop-start l =
    (l.list.items ≡ map start_in (take l.start-index l.starts))
    × All (λ start. IfSome start (λ w. w < l.workers)) l.list.items
