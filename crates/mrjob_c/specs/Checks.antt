-- What a check of a caller's arrays says.
use Rattle.std.specs.Prelude.{ℕ, ◌≡◌, List, Option, Some, None, length, map}
use Rattle.std.specs.declared.result.Result.{Result}
use Rattle.std.specs.declared.result.Result.TheVariants.{Ok, Err}
use Rattle.wave_problem.specs.Assignment.{pairs_of, total, IsBest}
use Rattle.price_certificate.specs.declared.Condition.{Condition}
use Rattle.price_certificate.specs.declared.Condition.TheVariants.{Open, Allowed, Room, SplitPrice}
use Rattle.price_certificate.specs.declared.Condition.TheVariants.{WorkerPrice, Priced, Tight, Unstarted}
use Rattle.price_certificate.specs.declared.Condition.TheVariants.{Spare}
use Rattle.certificate_checker.specs.declared.Certified.{Certified}
use Rattle.price_certificate.specs.Certificate.{charged_claim, claim, Certifies, Claim, IsFirstFailure}
use Rattle.price_certificate.specs.Places.{IsBestByCharge, places_taken}
use Rattle.wave_arrays.specs.declared.array_rows.WaveRows.{WaveRows}
use Rattle.wave_arrays.specs.declared.place_rows.PlaceRows.{PlaceRows}
use Rattle.wave_arrays.specs.PlacePrices.{places_in}
use Rattle.wave_arrays.specs.Rows.{wave_in}
use Rattle.wave_arrays.specs.Claims.{prices_in, start_in}
use Rattle.mrjob_c.specs.declared.checks.Verdict.{Verdict}
use Rattle.mrjob_c.specs.declared.checks.WideVerdict.{WideVerdict}
use Rattle.mrjob_c.specs.declared.charges.PlacesVerdict.{PlacesVerdict}

-- what starts and prices claim of the wave that the rows make
abbrev pub claim_in : WaveRows → List ℕ → List ℕ → List ℕ → Claim
claim_in rows starts splits workers = claim (wave_in rows) (map start_in starts) (prices_in splits workers)

-- the same where places have the prices that these rows say
abbrev pub charged_claim_in : WaveRows → PlaceRows → List ℕ → List ℕ → List ℕ → Claim
charged_claim_in rows places starts splits workers =
    charged_claim (wave_in rows) (places_in places) (map start_in starts) (prices_in splits workers)

-- the prices certify the plan, so that it is best, and so many start at such a cost
pub record IsBestBy (claim : Claim) (many far : ℕ) : Type 0 where
  pub certifies : Certifies claim
  pub best : IsBest claim.wave (pairs_of claim.starts)
  pub count : many ≡ length (pairs_of claim.starts)
  pub cost : far ≡ total claim.wave (pairs_of claim.starts)

-- the outcome of a check is that of the claim
abbrev pub IsJudged : Claim → Result Certified Condition → Type 0
IsJudged claim (Ok certified) = IsBestBy claim certified.count certified.cost
IsJudged claim (Err condition) = IsFirstFailure claim condition

-- the prices certify the plan, so that it is best by its charge, and so many start at such a cost, in places that
-- cost so much
pub record IsBestWith (claim : Claim) (many far charged : ℕ) : Type 0 where
  pub certifies : Certifies claim
  pub best : IsBestByCharge claim.places claim.wave (pairs_of claim.starts)
  pub count : many ≡ length (pairs_of claim.starts)
  pub cost : far ≡ total claim.wave (pairs_of claim.starts)
  pub places : charged ≡ places_taken claim.places claim.wave (pairs_of claim.starts)

-- the outcome of a check is that of the claim
abbrev pub IsJudgedWith : Claim → Result Certified Condition → Type 0
IsJudgedWith claim (Ok certified) = IsBestWith claim certified.count certified.cost certified.places
IsJudgedWith claim (Err condition) = IsFirstFailure claim condition

-- the number of a condition
abbrev pub condition_of : Condition → ℕ
condition_of (Open s) = 1
condition_of (Allowed s w) = 2
condition_of (Room w) = 3
condition_of (SplitPrice s) = 4
condition_of (WorkerPrice w) = 4
condition_of (Priced s w) = 5
condition_of (Tight s w) = 6
condition_of (Unstarted s) = 7
condition_of (Spare w) = 8

-- the split and the worker that it is of
abbrev pub split_in : Condition → Option ℕ
split_in (Open s) = Some s
split_in (Allowed s w) = Some s
split_in (Room w) = None
split_in (SplitPrice s) = Some s
split_in (WorkerPrice w) = None
split_in (Priced s w) = Some s
split_in (Tight s w) = Some s
split_in (Unstarted s) = Some s
split_in (Spare w) = None

abbrev pub worker_in : Condition → Option ℕ
worker_in (Open s) = None
worker_in (Allowed s w) = Some w
worker_in (Room w) = Some w
worker_in (SplitPrice s) = None
worker_in (WorkerPrice w) = Some w
worker_in (Priced s w) = Some w
worker_in (Tight s w) = Some w
worker_in (Unstarted s) = None
worker_in (Spare w) = Some w

-- ---- verdicts

-- what a verdict says, and the number that stands for no split and no worker in it
pub record Finding : Type 0 where
  pub count : ℕ
  pub cost : ℕ
  pub condition : ℕ
  pub split : ℕ
  pub worker : ℕ
  pub none : ℕ

abbrev pub narrow_finding : Verdict → Finding
narrow_finding verdict = record {
  count = verdict.count;
  cost = verdict.cost;
  condition = verdict.condition;
  split = verdict.split;
  worker = verdict.worker;
  none = 65535;
}

abbrev pub wide_finding : WideVerdict → Finding
wide_finding verdict = record {
  count = verdict.count;
  cost = verdict.cost;
  condition = verdict.condition;
  split = verdict.split;
  worker = verdict.worker;
  none = 4294967295;
}

abbrev pub places_finding : PlacesVerdict → Finding
places_finding verdict = record {
  count = verdict.count;
  cost = verdict.cost;
  condition = verdict.condition;
  split = verdict.split;
  worker = verdict.worker;
  none = 4294967295;
}

-- a place as a number, of which one stands for none
abbrev pub number_of : ℕ → Option ℕ → ℕ
number_of none None = none
number_of none (Some place) = place

-- the finding says that the claim is certified
pub record IsCertifiedBy (claim : Claim) (finding : Finding) : Type 0 where
  pub best : IsBestBy claim finding.count finding.cost
  pub none : finding.condition ≡ 0
  pub no_split : finding.split ≡ finding.none
  pub no_worker : finding.worker ≡ finding.none

-- the finding says that the claim is certified, in places that cost so much
pub record IsCertifiedWith (claim : Claim) (finding : Finding) (charged : ℕ) : Type 0 where
  pub best : IsBestWith claim finding.count finding.cost charged
  pub none : finding.condition ≡ 0
  pub no_split : finding.split ≡ finding.none
  pub no_worker : finding.worker ≡ finding.none

-- the finding names the condition
pub record Names (finding : Finding) (c : Condition) : Type 0 where
  pub number : finding.condition ≡ condition_of c
  pub split : finding.split ≡ number_of finding.none (split_in c)
  pub worker : finding.worker ≡ number_of finding.none (worker_in c)
  pub no_count : finding.count ≡ 0
  pub no_cost : finding.cost ≡ 0

-- the finding names the first condition that fails
pub record IsRefusedBy (claim : Claim) (finding : Finding) : Type 0 where
  pub condition : Condition
  pub first : IsFirstFailure claim condition
  pub names : Names finding condition

-- the finding tells the outcome of a check
pub record TellsCount (finding : Finding) (certified : Certified) : Type 0 where
  pub count : finding.count ≡ certified.count
  pub cost : finding.cost ≡ certified.cost
  pub none : finding.condition ≡ 0
  pub no_split : finding.split ≡ finding.none
  pub no_worker : finding.worker ≡ finding.none

abbrev pub Tells : Finding → Result Certified Condition → Type 0
Tells finding (Ok certified) = TellsCount finding certified
Tells finding (Err condition) = Names finding condition

-- what the places cost, where the outcome is that the prices certify
abbrev pub places_told : Result Certified Condition → ℕ
places_told (Ok certified) = certified.places
places_told (Err condition) = 0
