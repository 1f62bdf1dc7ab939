-- What is said of a plan of the problem that was read is said of the text, and a check of what is written
-- certifies it.
use Rattle.std.proofs.Common.{ℕ, zero, suc, List, [], ◌∷◌, ◌++◌, Option, Bool, ◌≡◌, ◌<◌, ◌≤◌, ◌^◌, ◌∙◌}
use Rattle.std.proofs.Common.{◌*◌, length, slice_index, sym, subst, arith, false, inl, inr, IfOk, Ok, Err}
use Rattle.std.specs.declared.result.Result.{Result}
use Rattle.text_lines.specs.declared.fault.TextFault.{TextFault}
use Rattle.std.specs.List.{All}
use Rattle.std.proofs.lemmas.List.Elements.{All-cons, All-nil}
use Rattle.std.proofs.lemmas.Grind.{common_steps}
use Rattle.std.proofs.lemmas.Bool.{cases_lt}
use Rattle.std.proofs.lemmas.List.{get_or_past}
use Rattle.std.proofs.lemmas.List.Sums.{sum_by-le}
use Rattle.rack_tree.specs.declared.TheConstants.{MAX_WORKERS}
use Rattle.wave_problem.specs.Sums.{sum_below}
use Rattle.wave_problem.specs.Wave.{IsWithinLimits, Split, Wave, worker_at}
use Rattle.wave_problem.specs.declared.TheConstants.{MAX_BYTES, MAX_SLOTS}
use Rattle.wave_problem.specs.declared.lines.WorkerLine.{WorkerLine}
use Rattle.wave_problem.specs.Assignment.{pairs_of, total}
use Rattle.wave_problem.proofs.Bound.{live_known}
use Rattle.price_certificate.specs.Places.{ArePlacePrices, all_places, full_reward, places_cost}
use Rattle.price_certificate.specs.declared.TheConstants.{MAX_PLACE_PRICE}
use Rattle.price_certificate.specs.Certificate.{Certifies, Claim, HasOneSize, charged_claim, claim, reward_of}
use Rattle.price_certificate.proofs.Covered.{charge-plain, places_cost-le}
use Rattle.certificate_checker.specs.Verdict.{IsCertified}
use Rattle.certificate_checker.specs.declared.Certified.{Certified as Figures}
use Rattle.price_certificate.specs.declared.Condition.TheVariants.{Allowed, SplitPrice, WorkerPrice}
use Rattle.price_certificate.specs.PriceList.{PriceList}
use Rattle.flow_network.specs.declared.kinds.NetworkKind.{NetworkKind}
use Rattle.wave_planner.specs.Planned.{Planned}
use Rattle.text_lines.specs.Texts.{Word}
use Rattle.line_rules.specs.declared.purpose.Purpose.TheVariants.{Planning}
use Rattle.plan_text.specs.Names.{splits, workers}
use Rattle.plan_text.specs.Reading.{HasFitLines, IsProblemOf}
use Rattle.plan_text.specs.Report.{certified_by, planned_by, start_lines}
use Rattle.plan_text.specs.Value.{places}
use Rattle.plan_text.specs.declared.built.ProblemText.{ProblemText}
use Rattle.written_plan.specs.Joined.{IsWritable, ReadsBack}
use Rattle.written_plan.proofs.ReadBack.{written_plan_reads_back}
use Rattle.tools.specs.CheckAnswer.{AnswersRead, IsBestWith, SaysCertified}
use Rattle.tools.specs.PlanAnswer.{AnswersProblem, ChecksAgain, PlanAnswer, PlansProblem, PlansRead}
use Rattle.tools.specs.PlanAnswer.{SaysPlanned}
use Rattle.tools.specs.PlanAnswer.{IsMadeWith, IsPastWith, asked_prices, plan_cost, plan_count, plan_taken}
use Rattle.tools.specs.declared.program_end.CheckEnd.TheVariants.{Certified}
use Rattle.tools.specs.declared.program_end.PlanEnd.{PlanEnd}
use Rattle.tools.specs.declared.program_end.PlanEnd.TheVariants as end

-- the line on a plan that is certified
abbrev line_on : Claim → List ℕ
line_on c = certified_by c.places (plan_count c) (plan_cost c) (plan_taken c)

-- a text that declares a claim which its prices certify is certified
certified_text : (text : List ℕ) (wave : Wave) (places : List (List ℕ)) (starts : List (Option ℕ))
    (prices : PriceList) → ReadsBack text wave places starts prices
    → SaysCertified (charged_claim wave places starts prices) (line_on (charged_claim wave places starts prices))
    → AnswersRead text Certified (line_on (charged_claim wave places starts prices))
certified_text text wave places starts prices back says = grind arith

checks_again : (text : List ℕ) (v : ProblemText) (starts : List (Option ℕ)) (prices : PriceList)
    (with_prices : Bool)
    (lines : List ℕ) → IsProblemOf text v → HasFitLines Planning text
    → IsWritable v.splits v.workers starts prices
    → SaysPlanned with_prices (charged_claim v.problem v.places starts prices) v.splits v.workers lines
    → ChecksAgain text (charged_claim v.problem v.places starts prices) v.splits v.workers
checks_again text v starts prices with_prices lines read fit sized says short =
    search (arith, certified_text, written_plan_reads_back)

pub plans_read : (text : List ℕ) (v : ProblemText) (network : NetworkKind) (with_prices : Bool)
    (lines : List ℕ) → IsProblemOf text v → HasFitLines Planning text
    → PlansProblem v network with_prices lines → PlansRead text network with_prices lines
plans_read text v network with_prices lines read fit plans =
    let ss = read.statements in
    let priced : v.places ≡ places ss = read.declares.places in
    let made : List (List ℕ) → Claim = λ ps. charged_claim v.problem ps plans.starts plans.prices in
    let all : (v.places, v.splits, v.workers) ≡ (places ss, splits ss, workers ss) =
    λ i. (priced i, read.declares.splits i, read.declares.workers i) in
    record {
      statements = ss;
      wave = v.problem;
      starts = plans.starts;
      prices = plans.prices;
      reads = read.reads;
      declared = read.declares.wave;
      fits = subst (λ ps. IsPastWith network ps v.problem → ⊥) priced plans.fits;
      over = subst (λ ps. IsMadeWith network ps v.problem plans.starts plans.prices) priced plans.over;
      says = subst (λ (p : List (List ℕ) × List Word × List Word). SaysPlanned with_prices (made p.0) p.1 p.2 lines)
          all plans.says;
      checks = subst (λ (p : List (List ℕ) × List Word × List Word). ChecksAgain text (made p.0) p.1 p.2) all
          (checks_again text v plans.starts plans.prices with_prices lines read fit plans.sized plans.says);
    }

-- what answers the problem answers the text
pub answers_read : (text : List ℕ) (v : ProblemText) (network : NetworkKind) (with_prices : Bool)
    (end : Result PlanEnd TextFault) (lines : List ℕ) → IsProblemOf text v → HasFitLines Planning text
    → AnswersProblem v network with_prices end lines
    → PlanAnswer text network with_prices end lines
answers_read text v network with_prices (Ok end.Planned) lines read fit answer =
    plans_read text v network with_prices lines read fit answer
answers_read text v network with_prices (Ok end.PastNetwork) lines read fit answer = record {
  statements = read.statements;
  wave = v.problem;
  reads = read.reads;
  declared = read.declares.wave;
  past = subst (λ ps. IsPastWith network ps v.problem) read.declares.places answer.0;
  silent = answer.1;
}
answers_read text v network with_prices (Err fault) lines read fit answer = absurd answer

-- ---- a plan that was made for a problem

all_below : (n m : ℕ) (xs : List ℕ) → m < n → ((i : ℕ) → slice_index xs i ≤ m) → All (λ x. x < n) xs
all_below n m [] less each = All-nil _
all_below n m (x ∷ xs) less each =
    All-cons (λ y. y < n) x xs (let first : x ≤ m = each zero in omega arith)
    (all_below n m xs less (λ i. each (suc i)))

plan_for_names : (ss ws : List Word) (c : Claim) (plan_workers : ℕ) → length ss ≡ length c.wave.splits
    → length ws ≡ length c.wave.workers → HasOneSize (claim c.wave c.starts c.prices) plan_workers → Certifies c
    → reward_of c < 2 ^ 64 → IsWritable ss ws c.starts c.prices
plan_for_names ss ws c plan_workers as_splits as_workers sized certifies small = record {
  split_starts = sized.starts ∙ sym as_splits;
  split_prices = sized.split_prices ∙ sym as_splits;
  worker_prices = sized.worker_prices ∙ sym as_workers;
  of_workers = λ s w started. subst (λ n. w < n) (sym as_workers)
      (live_known c.wave w (certifies (Allowed s w) started).0);
  split_amounts = all_below (2 ^ 64) (reward_of c) c.prices.splits small (λ s. certifies (SplitPrice s));
  worker_amounts = all_below (2 ^ 64) (reward_of c) c.prices.workers small (λ w. certifies (WorkerPrice w));
}

-- what the places of all free slots cost at most
most_below : (n : ℕ) (f : ℕ → ℕ) → ((k : ℕ) → f k ≤ MAX_SLOTS * MAX_PLACE_PRICE)
    → sum_below n f ≤ n * (MAX_SLOTS * MAX_PLACE_PRICE)
most_below zero f most = omega arith
most_below (suc n) f most = omega (arith, most_below n f most, most n)

all_places-le : (places : List (List ℕ)) (wave : Wave) → ArePlacePrices places → IsWithinLimits wave
    → all_places places wave ≤ MAX_WORKERS * (MAX_SLOTS * MAX_PLACE_PRICE)
all_places-le places wave fit limits =
    let none : WorkerLine = record { live = false; free = 0 } in
    let slots : (w : ℕ) → (worker_at wave w).free ≤ MAX_SLOTS = λ w. elim (cases_lt w (length wave.workers)) [
      | inl known ↦ limits.slots w none known
      | inr past ↦ rw (get_or_past wave.workers w none (omega arith)) (omega arith)
    ] in
    omega (
      arith,
      most_below (length places) (λ w. places_cost places w (worker_at wave w).free)
          (λ w. omega (arith, places_cost-le places w (worker_at wave w).free fit.each, slots w)),
      fit.few,
    )

-- no price is past what can be read back
pub small_reward : (places : List (List ℕ)) (wave : Wave) → ArePlacePrices places → IsWithinLimits wave
    → full_reward places wave < 2 ^ 64
small_reward places wave fit limits =
    let most = sum_by-le (λ (split : Split). split.bytes) MAX_BYTES wave.splits limits.bytes in
    let few = limits.few_splits in
    let charged = all_places-le places wave fit limits in
    grind (arith, common_steps)

-- a plan that is certified where all places are free
pub free_certified : {E : Type 0} (wave : Wave) (places : List (List ℕ)) (result : Result Planned E)
    → places ≡ [] → IfOk result (λ p. Certifies (claim wave p.plan.starts p.prices))
    → IfOk result (λ p. p.certified.count ≡ length (pairs_of p.plan.starts))
    → IfOk result (λ p. p.certified.cost ≡ total wave (pairs_of p.plan.starts))
    → IfOk result (λ p. p.certified.places ≡ 0)
    → IfOk result (λ p. IsCertified (charged_claim wave places p.plan.starts p.prices) p.certified)
free_certified wave places (Err e) free certifies count cost taken = tt
free_certified wave places (Ok p) free certifies count cost taken =
    subst (λ (ps : List (List ℕ)). IsCertified (charged_claim wave ps p.plan.starts p.prices) p.certified)
    (sym free) (record {
      certifies = certifies;
      count = count;
      cost = cost;
      places = taken ∙ sym (charge-plain wave (pairs_of p.plan.starts));
    })

-- the lines of a plan's figures and starts, and then the lines of its prices, if prices are asked for
pub plans_problem : (network : NetworkKind) (with_prices : Bool) (v : ProblemText) (starts : List (Option ℕ))
    (prices : PriceList) (plan_workers : ℕ) (figures : Figures) (lines : List ℕ)
    → length v.splits ≡ length v.problem.splits → length v.workers ≡ length v.problem.workers
    → (IsPastWith network v.places v.problem → ⊥) → IsMadeWith network v.places v.problem starts prices
    → HasOneSize (claim v.problem starts prices) plan_workers
    → IsCertified (charged_claim v.problem v.places starts prices) figures
    → IsBestWith v.places v.problem (pairs_of starts) → full_reward v.places v.problem < 2 ^ 64
    → lines ≡ (planned_by v.places figures.count figures.cost figures.places
    ++ start_lines v.splits v.workers starts) ++ asked_prices with_prices v.splits v.workers prices
    → PlansProblem v network with_prices lines
plans_problem network asked v starts prices n figures lines as_splits as_workers fits over sized is best small said =
    record {
      starts = starts;
      prices = prices;
      sized = plan_for_names v.splits v.workers (charged_claim v.problem v.places starts prices) n as_splits
          as_workers sized is.certifies small;
      fits = fits;
      over = over;
      says = record {
        certifies = is.certifies;
        best = best;
        said = said ∙ (λ i. (planned_by v.places (is.count i) (is.cost i) (is.places i)
            ++ start_lines v.splits v.workers starts) ++ asked_prices asked v.splits v.workers prices);
      };
    }
