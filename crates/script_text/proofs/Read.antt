-- A text that was read has no more lines of a keyword than there may be.
use Rattle.std.proofs.Common.{ℕ, List, [], ◌∙◌, ◌≡◌, ◌≤◌, ◌⊎◌, arith, inl, inr, length, subst, sym, take}
use Rattle.text_lines.specs.Texts.{lines_of}
use Rattle.line_shapes.specs.declared.keyword.Keyword.{Keyword}
use Rattle.line_shapes.specs.Lines.{Statement}
use Rattle.line_shapes.specs.declared.keyword.Keyword.TheVariants.{Split, Worker}
use Rattle.line_rules.specs.Entering.{most_of}
use Rattle.line_rules.specs.Faults.{IsFew}
use Rattle.line_rules.specs.Known.{Known, known_at, rows_of}
use Rattle.line_rules.specs.Reading.{IsAllRead}
use Rattle.line_rules.specs.declared.edition.Version.TheVariants.{Three}
use Rattle.line_rules.specs.declared.purpose.Purpose.{Purpose}
use Rattle.line_rules.specs.declared.purpose.Purpose.TheVariants.{Playing, Running}
use Rattle.line_rules.proofs.FitLines.{known_after}
use Rattle.plan_text.proofs.Tidy.{kept-after, tidy-none}
use Rattle.script_text.specs.Heads.{FitMaster}

pub few-read : (purpose : Purpose) (text : List ℕ) (k : Known) → IsAllRead purpose text k → (word : Keyword)
    → IsFew (most_of Three purpose word) (length (rows_of word k.rows))
few-read purpose text k read word =
    let kept = kept-after (known_at purpose []) (take (length read.statements) (lines_of text))
    read.statements
    read.fit (tidy-none purpose) in
    subst (λ (j : Known). IsFew (most_of Three purpose word) (length (rows_of word j.rows)))
    (known_after purpose read.statements ∙ sym read.known) (kept.few word)

-- the text is read to play or to run a job
abbrev pub IsOfJob : Purpose → Type 0
IsOfJob purpose = (purpose ≡ Playing) ⊎ (purpose ≡ Running)

few-fit : (purpose : Purpose) (rows : List Statement) → IsOfJob purpose
    → ((word : Keyword) → IsFew (most_of Three purpose word) (length (rows_of word rows))) → FitMaster rows
few-fit Playing rows job few = record { few_workers = few Worker; few_splits = few Split }
few-fit Running rows job few = record {
  few_workers = let workers : length (rows_of Worker rows) ≤ 1024 = few Worker in omega (arith, workers);
  few_splits = few Split;
}
few-fit purpose rows (inl is) few = absurd cc
few-fit purpose rows (inr is) few = absurd cc

-- then it has no more than a master has
pub fit_master-read : (purpose : Purpose) (text : List ℕ) (k : Known) → IsOfJob purpose
    → IsAllRead purpose text k → FitMaster k.rows
fit_master-read purpose text k job read = few-fit purpose k.rows job (few-read purpose text k read)
