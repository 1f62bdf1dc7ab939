-- A plan that is stale in the present state, and copy orders.
use Rattle.std.proofs.Common.{◌≡◌, ℕ, zero, suc, ◌+◌, ◌<◌, List, [], ◌∷◌, Option, Some, None, refl, true}
use Rattle.std.proofs.Common.{arith, inl, inr, Contains}
use Rattle.word_map.specs.Texts.{SplitDocuments}
use Rattle.wave_problem.specs.Wave.{Wave, IsAdmissible, cost, reward, worker_at}
use Rattle.price_certificate.specs.Certificate.{Certifies, Holds, claim, split_price, worker_price}
use Rattle.price_certificate.specs.PriceList.{PriceList}
use Rattle.price_certificate.specs.declared.Condition.TheVariants as condition
use Rattle.std.proofs.lemmas.Bool.{false≢true}
use Rattle.block_map.specs.Copies.{Holdings, IsCopy, WantsCopy, AreCopies, may_hold, IsNoWorse}
use Rattle.block_map.specs.declared.CopyOrder.{CopyOrder}
use Rattle.block_map.specs.declared.HolderLimit.TheVariants.{Eight}
use Rattle.master_state.specs.States.{Setup, State, opening}
use Rattle.master_state.specs.Refusals.{MapDone, MapFailed, Add}
use Rattle.master_state.specs.Steps.{problem_of}
use Rattle.master_state.proofs.Scripts.{Ask, Start, played, answers}

abbrev text : ℕ → SplitDocuments
text split = record { split = split; documents = [] }

-- workers 0 and 1 with a slot each; split 0 of 10 bytes on worker 0, split 1 of 10 bytes without a holder
abbrev job : Setup
job = record {
  cluster = record {
    tree = record { centres = 1; centre_of = 0 ∷ []; rack_of = 0 ∷ 0 ∷ [] };
    slots = 1 ∷ 1 ∷ [];
    splits = record { bytes = 10; pending = true; holders = 0 ∷ [] } ∷ record {
      bytes = 10;
      pending =
          true;
      holders = [];
    } ∷ [];
    texts = text 0 ∷ text 1 ∷ [];
    parts = 1;
    silence = 3;
    holder_limit = Eight;
  };
  limits = record { events = 9; attempts = 9; sweeps = 0 };
}

abbrev before : Wave
before = problem_of job (played job (Start ((0, 0) ∷ []) ∷ Ask (Add 1 0) ∷ []))

-- the result of attempt 1 frees worker 0
abbrev now_state : State
now_state =
    played job (Start ((0, 0) ∷ []) ∷ Ask (Add 1 0) ∷ Ask (MapDone 1 (record { text = text 0; parts = 1 }))
    ∷ [])

abbrev present : Wave
present = problem_of job now_state

reward_is : reward present ≡ 81
reward_is = refl

costs_twenty : cost before 1 1 ≡ Some 20
costs_twenty = refl

was_taken : (worker_at before 0).free ≡ 0
was_taken = refl

is_free : (worker_at present 0).free ≡ 1
is_free = refl

costs_nothing : cost present 1 0 ≡ Some 0
costs_nothing = refl

-- the near start is admissible now
near_start : IsAdmissible present 1 0
near_start = grind arith

-- the plan made before: split 1 on worker 1
abbrev old_plan : List (Option ℕ)
old_plan = None ∷ Some 1 ∷ []

-- no prices certify it now
stale : (prices : PriceList) → Certifies (claim present old_plan prices) → ⊥
stale prices holds =
    let priced = holds (condition.Priced 1 0) near_start in
    let tight = holds (condition.Tight 1 1) refl in
    let spare = (holds (condition.Spare 0)).left (omega arith) in
    omega (arith, priced, tight, spare)

-- it fails at the near start, or else at the price of the worker that it leaves free
stale_at : (prices : PriceList) → Holds (claim present old_plan prices) (condition.Spare 0) →
    split_price prices 1 + worker_price prices 0 < 81 →
    Holds (claim present old_plan prices) (condition.Priced 1 0) → ⊥
stale_at prices spare less priced = omega (arith, priced near_start, less)

-- a plan that was committed starts a split that is pending no more
abbrev again : Wave
again = problem_of job
    (played job (Start ((0, 0) ∷ []) ∷ Ask (Add 1 0) ∷ Ask (MapDone 1 (record { text = text 0; parts = 1 }))
    ∷ Start ((1, 0) ∷ []) ∷ []))

committed_twice : (prices : PriceList) → Holds (claim again (None ∷ Some 0 ∷ []) prices) (condition.Open 1) →
    ⊥
committed_twice prices open_split = absurd (false≢true (open_split refl).0)

-- racks 0 and 1, workers 0 and 1 in the first, 2 in the second; a split of 5 bytes on worker 0
abbrev racks : Setup
racks = record {
  cluster = record {
    tree = record { centres = 1; centre_of = 0 ∷ 0 ∷ []; rack_of = 0 ∷ 0 ∷ 1 ∷ [] };
    slots = 1 ∷ 1 ∷ 1 ∷ [];
    splits = record { bytes = 5; pending = true; holders = 0 ∷ [] } ∷ [];
    texts = text 0 ∷ [];
    parts = 1;
    silence = 3;
    holder_limit = Eight;
  };
  limits = record { events = 9; attempts = 9; sweeps = 0 };
}

abbrev held : Holdings
held = record {
  workers = (opening racks).workers;
  tree = racks.cluster.tree;
  lists =
      (opening racks).holders;
  target = 2;
}

abbrev copy : CopyOrder
copy = record { split = 0; from = 0; to = 2 }

no_worse : (w : ℕ) → may_hold held 0 w ≡ true → IsNoWorse held 0 2 w
no_worse zero e = absurd (false≢true e)
no_worse (suc zero) e = inl (omega arith)
no_worse (suc (suc zero)) e = inr (refl, omega arith)
no_worse (suc (suc (suc w))) e = absurd (false≢true e)

is_copy : IsCopy held copy
is_copy = grind arith

only_first : (s : ℕ) → WantsCopy held s → Contains (0 ∷ []) s
only_first zero wants = (0, omega arith, refl)
only_first (suc s) wants = absurd (omega (arith, wants.held))

are_copies : AreCopies held (copy ∷ [])
are_copies = grind arith

-- the first attempt fails, so the pair is barred, and the split goes to the other worker of the rack
failed_answers : answers racks (Start ((0, 0) ∷ []) ∷ Ask (MapFailed 1) ∷ Start ((0, 1) ∷ []) ∷ [])
    ≡ None ∷ None ∷ None ∷ []
failed_answers = refl

abbrev failed : Wave
failed = problem_of racks (played racks (Start ((0, 0) ∷ []) ∷ Ask (MapFailed 1) ∷ []))

not_there_again : IsAdmissible failed 0 0 → ⊥
not_there_again there = there.not_barred refl

beside_costs : cost failed 0 1 ≡ Some 10
beside_costs = refl

far_costs : cost failed 0 2 ≡ Some 20
far_costs = refl
