-- What is answered to a problem that is to be planned, and the lines that are written.
use Rattle.std.specs.Prelude.{ℕ, List, [], ◌≡◌, ◌++◌, ◌≤◌, Bool, true, false, Option, Ok, Err, length, ⊤}
use Rattle.std.specs.declared.result.Result.{Result}
use Rattle.text_lines.specs.Streams.{longest}
use Rattle.text_lines.specs.Texts.{Word}
use Rattle.text_lines.specs.declared.fault.TextFault.{TextFault}
use Rattle.wave_problem.specs.Wave.{Wave}
use Rattle.wave_problem.specs.Assignment.{pairs_of, total}
use Rattle.price_certificate.specs.Certificate.{Claim, Certifies, charged_claim}
use Rattle.price_certificate.specs.Places.{places_taken}
use Rattle.price_certificate.specs.PriceList.{PriceList}
use Rattle.flow_network.specs.declared.kinds.NetworkKind.{NetworkKind}
use Rattle.flow_network.specs.declared.kinds.NetworkKind.TheVariants.{Direct}
use Rattle.wave_planner.specs.Planned.{IsMadeOver, IsPast}
use Rattle.line_shapes.specs.Lines.{Statement}
use Rattle.plan_text.specs.Names.{splits, workers}
use Rattle.line_rules.specs.Texts.{ReadsAs}
use Rattle.line_rules.specs.declared.purpose.Purpose.TheVariants.{Planning}
use Rattle.plan_text.specs.Value.{DeclaresWave, places}
use Rattle.plan_text.specs.Report.{certified_by, lines_of_plan, planned_by, price_lines, start_lines}
use Rattle.plan_text.specs.declared.built.ProblemText.{ProblemText}
use Rattle.written_plan.specs.Joined.{IsWritable, with_plan}
use Rattle.line_rules.specs.Faulty.{IsFaulty}
use Rattle.tools.specs.CheckAnswer.{CheckAnswer, IsBestWith}
use Rattle.tools.specs.declared.program_end.CheckEnd.TheVariants.{Certified}
use Rattle.tools.specs.declared.program_end.PlanEnd.{PlanEnd}
use Rattle.tools.specs.declared.program_end.PlanEnd.TheVariants.{PastNetwork, Planned}

-- how many splits a plan starts, at what cost, and what its places cost
abbrev pub plan_count : Claim → ℕ
plan_count c = length (pairs_of c.starts)

abbrev pub plan_cost : Claim → ℕ
plan_cost c = total c.wave (pairs_of c.starts)

abbrev pub plan_taken : Claim → ℕ
plan_taken c = places_taken c.places c.wave (pairs_of c.starts)

-- the prices, where they are asked for
abbrev pub asked_prices : Bool → List Word → List Word → PriceList → List ℕ
asked_prices true splits workers prices = price_lines splits workers prices
asked_prices false splits workers prices = []

-- the prices certify the plan, which so is best in the problem; the lines have its count, its cost, what its
-- places cost where places have prices, its starts, and the prices where they are asked for
pub record SaysPlanned (with_prices : Bool) (c : Claim) (splits workers : List Word)
    (lines : List ℕ) : Type 0 where
  pub certifies : Certifies c
  pub best : IsBestWith c.places c.wave (pairs_of c.starts)
  pub said : lines ≡ planned_by c.places (plan_count c) (plan_cost c) (plan_taken c)
      ++ start_lines splits workers c.starts
      ++ asked_prices with_prices splits workers c.prices

-- starts and prices, put after the head of the text, are a text that a check certifies, if it is short enough
abbrev pub ChecksAgain : List ℕ → Claim → List Word → List Word → Type 0
ChecksAgain text c splits workers =
    length (with_plan text (lines_of_plan splits workers c.starts c.prices))
    ≤ longest (with_plan text (lines_of_plan splits workers c.starts c.prices))
    → CheckAnswer (with_plan text (lines_of_plan splits workers c.starts c.prices)) (Ok Certified)
    (certified_by c.places (plan_count c) (plan_cost c) (plan_taken c))

-- No network of this kind is built for the problem: it has too many splits or workers. A direct network has no
-- prices of places.
abbrev pub IsPastWith : NetworkKind → List (List ℕ) → Wave → Type 0
IsPastWith network [] wave = IsPast network wave
IsPastWith network places wave = network ≡ Direct

-- starts and prices that are read off a least-cost flow of the network of this kind, where all places are free
abbrev pub IsMadeWith : NetworkKind → List (List ℕ) → Wave → List (Option ℕ) → PriceList → Type 0
IsMadeWith network [] wave starts prices = IsMadeOver network wave starts prices
IsMadeWith network places wave starts prices = ⊤

-- the lines are on the problem that the text declares, planned over this network
pub record PlansRead (text : List ℕ) (network : NetworkKind) (with_prices : Bool) (lines : List ℕ)
    : Type 0 where
  pub statements : List Statement
  pub wave : Wave
  pub starts : List (Option ℕ)
  pub prices : PriceList
  pub reads : ReadsAs Planning text statements
  pub declared : DeclaresWave statements wave
  pub fits : IsPastWith network (places statements) wave → ⊥
  pub over : IsMadeWith network (places statements) wave starts prices
  pub says : SaysPlanned with_prices (charged_claim wave (places statements) starts prices)
      (splits statements) (workers statements) lines
  pub checks : ChecksAgain text (charged_claim wave (places statements) starts prices)
      (splits statements) (workers statements)

-- the text declares a problem for which no such network is built, and nothing is written
pub record IsPastNetwork (text : List ℕ) (network : NetworkKind) (lines : List ℕ) : Type 0 where
  pub statements : List Statement
  pub wave : Wave
  pub reads : ReadsAs Planning text statements
  pub declared : DeclaresWave statements wave
  pub past : IsPastWith network (places statements) wave
  pub silent : lines ≡ []

-- the lines with which planning over this network ends so
abbrev pub PlanAnswer : List ℕ → NetworkKind → Bool → Result PlanEnd TextFault → List ℕ → Type 0
PlanAnswer text network with_prices (Ok Planned) lines = PlansRead text network with_prices lines
PlanAnswer text network with_prices (Ok PastNetwork) lines = IsPastNetwork text network lines
PlanAnswer text network with_prices (Err fault) lines = IsFaulty Planning text fault lines

-- the lines are on a plan of this problem over this network
pub record PlansProblem (v : ProblemText) (network : NetworkKind) (with_prices : Bool) (lines : List ℕ)
    : Type 0 where
  pub starts : List (Option ℕ)
  pub prices : PriceList
  pub sized : IsWritable v.splits v.workers starts prices
  pub fits : IsPastWith network v.places v.problem → ⊥
  pub over : IsMadeWith network v.places v.problem starts prices
  pub says : SaysPlanned with_prices (charged_claim v.problem v.places starts prices) v.splits v.workers lines

-- planning this problem over this network ends so, with these lines
abbrev pub AnswersProblem : ProblemText → NetworkKind → Bool → Result PlanEnd TextFault → List ℕ → Type 0
AnswersProblem v network with_prices (Ok Planned) lines = PlansProblem v network with_prices lines
AnswersProblem v network with_prices (Ok PastNetwork) lines =
    IsPastWith network v.places v.problem × (lines ≡ [])
AnswersProblem v network with_prices (Err fault) lines = ⊥
