-- What is read of a text.
use Rattle.std.specs.Prelude.{◌≡◌, [], List, ℕ, length, take}
use Rattle.text_lines.specs.Texts.{lines_of}
use Rattle.line_shapes.specs.Lines.{Statement}
use Rattle.line_shapes.specs.declared.keyword.Keyword.TheVariants.{Split, Worker}
use Rattle.line_rules.specs.Known.{known_at}
use Rattle.line_rules.specs.Reading.{AreFitLines}
use Rattle.line_rules.specs.Texts.{ReadsAs}
use Rattle.line_rules.specs.declared.purpose.Purpose.{Purpose}
use Rattle.line_rules.specs.declared.purpose.Purpose.TheVariants.{Checking, Planning}
use Rattle.plan_text.specs.Names.{names_of, rows_in}
use Rattle.plan_text.specs.Value.{MakesWave, declared_places, declared_starts, prices_in}
use Rattle.plan_text.specs.declared.built.PlanText.{PlanText}
use Rattle.plan_text.specs.declared.built.ProblemText.{ProblemText}

-- the rows make this problem, with these prices of places and these names
pub record MakesProblem (rows : List Statement) (v : ProblemText) : Type 0 where
  pub wave : MakesWave rows v.problem
  pub places : v.places ≡ declared_places rows
  pub splits : v.splits ≡ names_of Split rows
  pub workers : v.workers ≡ names_of Worker rows

-- all parts are those that the rows make
pub record MakesPlan (rows : List Statement) (v : PlanText) : Type 0 where
  pub wave : MakesWave rows v.problem
  pub starts : v.plan.starts ≡ declared_starts rows
  pub prices : v.prices ≡ prices_in rows
  pub places : v.places ≡ declared_places rows
  pub splits : v.splits ≡ names_of Split rows
  pub workers : v.workers ≡ names_of Worker rows

-- the text has no fault, and its lines declare the value
pub record IsReadingOf (text : List ℕ) (v : PlanText) : Type 0 where
  pub statements : List Statement
  pub reads : ReadsAs Checking text statements
  pub declares : MakesPlan (rows_in statements) v

-- the text to plan from has no fault, and its lines declare the problem
pub record IsProblemOf (text : List ℕ) (v : ProblemText) : Type 0 where
  pub statements : List Statement
  pub reads : ReadsAs Planning text statements
  pub declares : MakesProblem (rows_in statements) v

-- a text without a fault: what holds of each of its lines after those before it, in place of no fault
abbrev pub HasFitLines : Purpose → List ℕ → Type 0
HasFitLines purpose text = (ss : List Statement) → ReadsAs purpose text ss
    → AreFitLines (known_at purpose []) (take (length ss) (lines_of text)) ss
