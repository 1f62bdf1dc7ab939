-- What a check answers to a text, and the line that it writes.
use Rattle.std.specs.Prelude.{ℕ, List, [], ◌≡◌, Ok, Err, length}
use Rattle.std.specs.declared.result.Result.{Result}
use Rattle.text_lines.specs.Texts.{Word}
use Rattle.text_lines.specs.declared.fault.TextFault.{TextFault}
use Rattle.wave_problem.specs.Wave.{Wave}
use Rattle.wave_problem.specs.Assignment.{IsBest, pairs_of, total}
use Rattle.price_certificate.specs.Certificate.{Claim, Certifies, IsFirstFailure, charged_claim}
use Rattle.price_certificate.specs.Places.{IsBestByCharge, places_taken}
use Rattle.price_certificate.specs.declared.Condition.{Condition}
use Rattle.line_shapes.specs.Lines.{Statement}
use Rattle.plan_text.specs.Names.{splits, workers}
use Rattle.plan_text.specs.declared.built.PlanText.{PlanText}
use Rattle.line_rules.specs.Texts.{ReadsAs}
use Rattle.line_rules.specs.declared.purpose.Purpose.TheVariants.{Checking}
use Rattle.plan_text.specs.Value.{DeclaresWave, places, prices, starts}
use Rattle.plan_text.specs.Report.{certified_by, refused_line}
use Rattle.line_rules.specs.Faulty.{IsFaulty}
use Rattle.tools.specs.declared.program_end.CheckEnd.{CheckEnd}
use Rattle.tools.specs.declared.program_end.CheckEnd.TheVariants.{Certified, Refused}

-- best by byte-distance alone where all places are free, and else by what the places cost too
abbrev pub IsBestWith : List (List ℕ) → Wave → List (ℕ × ℕ) → Type 0
IsBestWith [] wave pairs = IsBest wave pairs
IsBestWith places wave pairs = IsBestByCharge places wave pairs

-- the prices certify the plan, which so is best in the problem; the line has its count, its cost, and what its
-- places cost where places have prices
pub record SaysCertified (c : Claim) (line : List ℕ) : Type 0 where
  pub certifies : Certifies c
  pub best : IsBestWith c.places c.wave (pairs_of c.starts)
  pub said : line ≡ certified_by c.places (length (pairs_of c.starts)) (total c.wave (pairs_of c.starts))
      (places_taken c.places c.wave (pairs_of c.starts))

-- this condition fails, no earlier one does, and the line names it with its split and worker
pub record SaysRefused (condition : Condition) (c : Claim) (splits workers : List Word)
    (line : List ℕ) : Type 0 where
  pub first : IsFirstFailure c condition
  pub said : line ≡ refused_line splits workers condition

-- the line on a claim, by the names of its splits and workers
abbrev pub Judges : CheckEnd → Claim → List Word → List Word → List ℕ → Type 0
Judges Certified c splits workers line = SaysCertified c line
Judges (Refused condition) c splits workers line = SaysRefused condition c splits workers line

-- what the value that is read of a text claims
abbrev pub claim_of : PlanText → Claim
claim_of read = charged_claim read.problem read.places read.plan.starts read.prices

abbrev pub declared_claim : Wave → List Statement → Claim
declared_claim wave ss = charged_claim wave (places ss) (starts ss) (prices ss)

-- the line is on the problem, prices of places, plan and prices that the text declares
pub record AnswersRead (text : List ℕ) (end : CheckEnd) (line : List ℕ) : Type 0 where
  pub statements : List Statement
  pub wave : Wave
  pub reads : ReadsAs Checking text statements
  pub declared : DeclaresWave statements wave
  pub judges : Judges end (declared_claim wave statements) (splits statements) (workers statements) line

-- the line with which a check ends so
abbrev pub CheckAnswer : List ℕ → Result CheckEnd TextFault → List ℕ → Type 0
CheckAnswer text (Ok end) line = AnswersRead text end line
CheckAnswer text (Err fault) line = IsFaulty Checking text fault line
