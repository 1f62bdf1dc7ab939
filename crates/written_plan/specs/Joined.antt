-- A plan that was written, put together with the head that it was made from, and what reads back from it.
use Rattle.std.specs.Prelude.{ℕ, List, ◌∷◌, ◌++◌, ◌≡◌, ◌-◌, ◌^◌, ◌<◌, ◌≤◌, [], Option, Some, codes, length}
use Rattle.std.specs.Prelude.{take}
use Rattle.std.specs.List.{All}
use Rattle.wave_problem.specs.Wave.{Wave}
use Rattle.wave_problem.specs.Assignment.{start_of}
use Rattle.price_certificate.specs.PriceList.{PriceList}
use Rattle.text_lines.specs.Streams.{longest}
use Rattle.text_lines.specs.Texts.{Word}
use Rattle.line_shapes.specs.Lines.{Statement}
use Rattle.line_rules.specs.Texts.{ReadsAs}
use Rattle.line_rules.specs.declared.purpose.Purpose.TheVariants.{Checking, Planning}
use Rattle.plan_text.specs.Reading.{HasFitLines, IsProblemOf}
use Rattle.plan_text.specs.Report.{lines_of_plan}
use Rattle.plan_text.specs.Value as value
use Rattle.plan_text.specs.Value.{DeclaresWave}
use Rattle.plan_text.specs.declared.built.ProblemText.{ProblemText}

-- the last line of all, with its line feed
abbrev pub end_line : List ℕ
end_line = codes "end" ++ 10 ∷ []

-- a text without its last line
abbrev pub without_last_line : List ℕ → List ℕ
without_last_line text = take (length text - length end_line) text

-- the head of the text, a line `plan`, these lines, and `end`
abbrev pub with_plan : List ℕ → List ℕ → List ℕ
with_plan text lines = without_last_line text ++ codes "plan" ++ (10 ∷ lines) ++ end_line

-- starts and prices for as many splits and workers as these; each start is of one of the workers, and each
-- price can be read
pub record IsWritable (splits workers : List Word) (starts : List (Option ℕ))
    (prices : PriceList) : Type 0 where
  pub split_starts : length starts ≡ length splits
  pub split_prices : length prices.splits ≡ length splits
  pub worker_prices : length prices.workers ≡ length workers
  pub of_workers : (s w : ℕ) → start_of starts s ≡ Some w → w < length workers
  pub split_amounts : All (λ amount. amount < 2 ^ 64) prices.splits
  pub worker_amounts : All (λ amount. amount < 2 ^ 64) prices.workers

-- the text to check has no fault, and declares the wave, the prices of places, the starts and the prices
pub record ReadsBack (text : List ℕ) (wave : Wave) (places : List (List ℕ)) (starts : List (Option ℕ))
    (prices : PriceList) : Type 0 where
  pub statements : List Statement
  pub reads : ReadsAs Checking text statements
  pub declared : DeclaresWave statements wave
  pub same_places : value.places statements ≡ places
  pub same_starts : value.starts statements ≡ starts
  pub same_prices : value.prices statements ≡ prices

-- a plan written for a text's problem, joined to that text's head, reads back as itself, if the whole is not
-- too long
abbrev pub WrittenPlanReadsBack : Type 0
WrittenPlanReadsBack = (text : List ℕ) (v : ProblemText) (starts : List (Option ℕ)) (prices : PriceList)
    → IsProblemOf text v → HasFitLines Planning text → IsWritable v.splits v.workers starts prices
    → length (with_plan text (lines_of_plan v.splits v.workers starts prices))
    ≤ longest (with_plan text (lines_of_plan v.splits v.workers starts prices))
    → ReadsBack (with_plan text (lines_of_plan v.splits v.workers starts prices)) v.problem v.places starts prices
