-- What the rows of a text without a fault come to, for documents and settings.
use Rattle.std.proofs.Common.{ℕ, List, [], ◌∷◌, ◌≤◌, arith, get_or, length}
use Rattle.std.proofs.Common.{refl}
use Rattle.std.specs.List.{All, Contains}
use Rattle.text_lines.specs.Texts.{Word}
use Rattle.line_shapes.specs.Demands.{IsNumberWithin}
use Rattle.line_shapes.specs.Lines.{Statement}
use Rattle.line_shapes.specs.declared.keyword.Keyword.TheVariants.{Doc, Parts, Silence, Split, Target}
use Rattle.line_rules.specs.Known.{rows_of}
use Rattle.plan_text.specs.Names.{names_of, nth_word}
use Rattle.plan_text.specs.Tidy.{AreTidy, IsTidyRow}
use Rattle.plan_text.proofs.Named.{row_named}
use Rattle.plan_text.proofs.Words.{each_of_keyword, line}
use Rattle.script_text.specs.Settings.{IsSetting, number_or}

-- ---- documents

tidy_doc : (rows : List Statement) (words : List Word) → IsTidyRow rows (line Doc words)
    → Contains (names_of Split rows) (nth_word 1 (line Doc words))
tidy_doc rows words row =
    let whole : 2 ≤ length words = row.whole in
    row_named Split refl rows (get_or words 1 []) (row.known 1 (omega arith))

-- each line of a document names a split
pub tidy_docs : (rows : List Statement) → AreTidy rows
    → All (λ s. Contains (names_of Split rows) (nth_word 1 s)) (rows_of Doc rows)
tidy_docs rows tidy =
    each_of_keyword Doc (λ s. Contains (names_of Split rows) (nth_word 1 s)) rows tidy (tidy_doc rows)

-- ---- settings

abbrev pub AreWithin : ℕ → ℕ → List Statement → Type 0
AreWithin least most lines = All (λ s. IsNumberWithin least most (nth_word 0 s)) lines

module _ (rows : List Statement) (tidy : AreTidy rows) where
  pub parts_within : AreWithin 1 64 (rows_of Parts rows)
  parts_within = each_of_keyword Parts (λ s. IsNumberWithin 1 64 (nth_word 0 s)) rows tidy
      (λ words row. let whole : 1 ≤ length words = row.whole in row.in_range 0 (omega arith))

  pub silence_within : AreWithin 1 1000 (rows_of Silence rows)
  silence_within = each_of_keyword Silence (λ s. IsNumberWithin 1 1000 (nth_word 0 s)) rows tidy
      (λ words row. let whole : 1 ≤ length words = row.whole in row.in_range 0 (omega arith))

  pub target_within : AreWithin 1 8 (rows_of Target rows)
  target_within = each_of_keyword Target (λ s. IsNumberWithin 1 8 (nth_word 0 s)) rows tidy
      (λ words row. let whole : 1 ≤ length words = row.whole in row.in_range 0 (omega arith))

pub are_settings : (least most : ℕ) (lines : List Statement) → most ≤ 1000 → AreWithin least most lines
    → All IsSetting lines
are_settings least most lines low within i d lt = grind arith

-- what is told is within the range, where the number that stands for an absent line is
pub told_within : (least most n : ℕ) (lines : List Statement) → AreWithin least most lines
    → least ≤ n → n ≤ most → (least ≤ number_or n lines) × (number_or n lines ≤ most)
told_within least most n [] within low high = (low, high)
told_within least most n (s ∷ ss) within low high =
    let here = within 0 s (omega arith) in
    (here.1, here.2)
