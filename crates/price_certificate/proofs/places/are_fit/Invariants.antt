use Rattle.std.proofs.Common.{ℕ, ◌<◌}
use Rattle.std.specs.Prelude.{slice_index_or}
use Rattle.std.proofs.Common.{Vec, Global}
use Rattle.price_certificate.specs.Places.{IsFitRow}
use Rattle.price_certificate.proofs.places.are_fit.Given as goal

abbrev pub invariant-loop-i : goal.invariant-loop-i
invariant-loop-i l = (k : ℕ) (d : Vec ℕ Global) → k < l.i → IsFitRow (slice_index_or l.rows k d).items
