-- The one right answer to the question whether prices certify a plan.
use Rattle.std.specs.Prelude.{ℕ, ◌≡◌, ◌<◌, length, Ok, Err, Option, Some, None, ⊤}
use Rattle.std.specs.declared.result.Result.{Result}
use Rattle.wave_problem.specs.Assignment.{pairs_of, total}
use Rattle.price_certificate.specs.declared.Condition.{Condition}
use Rattle.price_certificate.specs.declared.Condition.TheVariants.{Priced}
use Rattle.price_certificate.specs.Places.{places_taken}
use Rattle.price_certificate.specs.Certificate.{AllHold, Claim, Certifies, Holds, IsFirstFailure, of_allowed}
use Rattle.price_certificate.specs.Certificate.{of_open, of_room, of_split_price, of_worker_price}
use Rattle.certificate_checker.specs.declared.Certified.{Certified}
use Rattle.certificate_checker.specs.declared.CheckError.{CheckError}
use Rattle.certificate_checker.specs.declared.CheckError.TheVariants.{Failed, Memory}

-- the plan is certified, with its count, its cost and what its places cost
pub record IsCertified (claim : Claim) (certified : Certified) : Type 0 where
  pub certifies : Certifies claim
  pub count : certified.count ≡ length (pairs_of claim.starts)
  pub cost : certified.cost ≡ total claim.wave (pairs_of claim.starts)
  pub places : certified.places ≡ places_taken claim.places claim.wave (pairs_of claim.starts)

-- what a checker has to answer: there is one such answer to each claim
abbrev pub IsVerdict : Claim → Result Certified Condition → Type 0
IsVerdict claim (Ok certified) = IsCertified claim certified
IsVerdict claim (Err c) = IsFirstFailure claim c

-- that answer from a checker that may also want memory
abbrev pub answer_of : Result Certified Condition → Result Certified CheckError
answer_of (Ok certified) = Ok certified
answer_of (Err c) = Err (Failed c)

-- what holds of the condition that failed, where one did
abbrev pub IfFailed : {X : Type 0} → Result X CheckError → (Condition → Type 0) → Type 0
IfFailed (Ok x) P = ⊤
IfFailed (Err Memory) P = ⊤
IfFailed (Err (Failed c)) P = P c

-- the conditions that are tested before any pair is: with them no sum of a pair's prices and cost wraps
pub record MayComparePairs (claim : Claim) : Type 0 where
  pub opened : AllHold claim of_open
  pub allowed : AllHold claim of_allowed
  pub room : AllHold claim of_room
  pub split_prices : AllHold claim of_split_price
  pub worker_prices : AllHold claim of_worker_price

-- what is found among the pairs of the split s: the first worker at which the prices are too low, or none
abbrev pub IsFirstUnderpriced : Claim → ℕ → Option ℕ → Type 0
IsFirstUnderpriced claim s None = (w : ℕ) → Holds claim (Priced s w)
IsFirstUnderpriced claim s (Some w) =
    (Holds claim (Priced s w) → ⊥) × ((v : ℕ) → v < w → Holds claim (Priced s v))
