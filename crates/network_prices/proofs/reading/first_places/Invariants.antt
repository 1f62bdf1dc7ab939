use Rattle.std.proofs.Common.{◌≡◌, ℕ, ◌<◌, length, get_or}
use Rattle.network_prices.proofs.reading.first_places.Given as goal

abbrev pub invariant-loop-split : goal.invariant-loop-split
invariant-loop-split l = (length l.places.items ≡ l.split) × ((k : ℕ) → k < l.split →
    get_or l.places.items k 0 ≡ k)
