-- By which prices a split is settled: no pair of it is priced too low.
use Rattle.std.specs.Prelude.{ℕ, ◌≡◌, ◌+◌, ◌*◌, ◌≤◌, Bool, IsTrue, true}
use Rattle.node_ids.specs.Sets.{HasPair}
use Rattle.wave_problem.specs.Wave.{IsUsable, split_at, worker_at}
use Rattle.price_certificate.specs.Certificate.{Claim, Holds, reward_of, split_price, worker_price}
use Rattle.price_certificate.specs.declared.Condition.TheVariants.{Priced}
use Rattle.certificate_checker.specs.Slots.{node_at}
use Rattle.certificate_checker.specs.declared.pairs.Enough.{Enough}
use Rattle.certificate_checker.specs.declared.slots.Level.{Level}
use Rattle.certificate_checker.specs.declared.slots.Level.TheVariants.{Rack}

-- where the test says so, no pair of s is priced too low
abbrev pub IsSettled : Claim → ℕ → Bool → Type 0
IsSettled claim s settled = IsTrue settled → (w : ℕ) → Holds claim (Priced s w)

-- s is priced with any worker that costs so much, so many steps from a holder
abbrev pub IsLeast : Claim → ℕ → ℕ → ℕ → Type 0
IsLeast claim s steps price =
    reward_of claim ≤ split_price claim.prices s + price + steps * (split_at claim.wave s).bytes

-- the prices are enough for a holder, and for a worker in its rack, in its data centre, and anywhere
pub record IsEnough (claim : Claim) (s : ℕ) (enough : Enough) : Type 0 where
  pub held : IsLeast claim s 0 enough.held
  pub in_rack : IsLeast claim s 2 enough.in_rack
  pub in_centre : IsLeast claim s 4 enough.in_centre
  pub anywhere : IsLeast claim s 6 enough.anywhere

-- s is priced with each worker under the node that may take it, so many steps from a holder
abbrev pub ArePriced : Claim → ℕ → Level → ℕ → ℕ → Type 0
ArePriced claim s level node steps = (w : ℕ) → IsUsable claim.wave.workers w
    → node_at claim.wave.tree level w ≡ node → (HasPair claim.wave.barred s w → ⊥)
    → IsLeast claim s steps (worker_price claim.prices w)

-- so it is with the workers under the node above h, if h lives
abbrev pub IsPricedAround : Claim → ℕ → Level → ℕ → ℕ → Type 0
IsPricedAround claim s level steps h = (worker_at claim.wave h).live ≡ true →
    ArePriced claim s level (node_at claim.wave.tree level h) steps

-- and with h itself, a holder that may take it
abbrev pub IsPricedOn : Claim → ℕ → ℕ → Type 0
IsPricedOn claim s h = IsUsable claim.wave.workers h → (HasPair claim.wave.barred s h → ⊥)
    → IsLeast claim s 0 (worker_price claim.prices h)

-- it is priced with h, if it lives, and with the others of its rack
abbrev pub IsPricedNear : Claim → ℕ → ℕ → Type 0
IsPricedNear claim s h = IsPricedAround claim s Rack 2 h × IsPricedOn claim s h
