-- At which split a condition may fail.
use Rattle.std.proofs.Common.{ℕ, ◌<◌, ◌≤◌, arith, inl, inr, length}
use Rattle.std.specs.Prelude.{IfSome}
use Rattle.std.proofs.lemmas.Bool.{cases_lt}
use Rattle.std.proofs.lemmas.List.{get_or_past}
use Rattle.price_certificate.specs.declared.Condition.{Condition}
use Rattle.price_certificate.specs.declared.Condition.TheVariants.{Open, Allowed, Room, SplitPrice}
use Rattle.price_certificate.specs.declared.Condition.TheVariants.{WorkerPrice, Priced, Tight, Unstarted}
use Rattle.price_certificate.specs.declared.Condition.TheVariants.{Spare}
use Rattle.price_certificate.specs.Certificate.{Claim, HasOneSize, Holds}
use Rattle.mrjob_c.specs.Checks.{split_in}

-- of a claim of one size, each condition holds past the last split
holds_past : (claim : Claim) (workers : ℕ) → HasOneSize claim workers → (c : Condition)
    → IfSome (split_in c) (λ s. length claim.wave.splits ≤ s → Holds claim c)
holds_past claim workers size (Open s) = λ past. grind (arith, get_or_past)
holds_past claim workers size (Allowed s w) = λ past. grind (arith, get_or_past)
holds_past claim workers size (Room w) = tt
holds_past claim workers size (SplitPrice s) = λ past. grind (arith, get_or_past)
holds_past claim workers size (WorkerPrice w) = tt
holds_past claim workers size (Priced s w) = λ past. grind (arith, get_or_past)
holds_past claim workers size (Tight s w) = λ past. grind (arith, get_or_past)
holds_past claim workers size (Unstarted s) = λ past. grind (arith, get_or_past)
holds_past claim workers size (Spare w) = tt

within : (n s : ℕ) → (n ≤ s → ⊥) → s < n
within n s not_past = elim (cases_lt s n) [
  | inl lt ↦ lt
  | inr past ↦ absurd (not_past past)
]

-- a condition that fails, and is of a split, is of one of the claim's splits
pub failing_split : (claim : Claim) (workers : ℕ) → HasOneSize claim workers → (c : Condition)
    → (Holds claim c → ⊥) → IfSome (split_in c) (λ s. s < length claim.wave.splits)
failing_split claim workers size (Open s) fails =
    within _ s (λ past. fails (holds_past claim workers size (Open s) past))
failing_split claim workers size (Allowed s w) fails =
    within _ s (λ past. fails (holds_past claim workers size (Allowed s w) past))
failing_split claim workers size (Room w) fails = tt
failing_split claim workers size (SplitPrice s) fails =
    within _ s (λ past. fails (holds_past claim workers size (SplitPrice s) past))
failing_split claim workers size (WorkerPrice w) fails = tt
failing_split claim workers size (Priced s w) fails =
    within _ s (λ past. fails (holds_past claim workers size (Priced s w) past))
failing_split claim workers size (Tight s w) fails =
    within _ s (λ past. fails (holds_past claim workers size (Tight s w) past))
failing_split claim workers size (Unstarted s) fails =
    within _ s (λ past. fails (holds_past claim workers size (Unstarted s) past))
failing_split claim workers size (Spare w) fails = tt
