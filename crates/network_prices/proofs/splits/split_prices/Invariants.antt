use Rattle.std.proofs.Common.{◌≡◌, ℕ, ◌<◌, length, get_or}
use Rattle.network_prices.specs.Pricing.{IsSplitPrice}
use Rattle.network_prices.proofs.splits.split_prices.Given as goal

abbrev pub invariant-loop-i : goal.invariant-loop-i
invariant-loop-i l = (length l.prices.items ≡ l.i) × ((s : ℕ) → s < l.i →
    IsSplitPrice l.problem l.workers l.plan.starts s (get_or l.prices.items s 0))
