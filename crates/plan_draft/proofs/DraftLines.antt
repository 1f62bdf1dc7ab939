-- A line `start` or `price` without a fault has all its words, by the names that the rows declare.
use Rattle.std.proofs.Common.{List, ◌≡◌, ◌≤◌, ◌<◌, ◌⊎◌, arith, inl, inr, length, refl}
use Rattle.text_lines.specs.Texts.{Line, Word}
use Rattle.line_shapes.specs.Lines.{Statement}
use Rattle.line_shapes.specs.declared.keyword.Keyword.{Keyword}
use Rattle.line_shapes.specs.declared.keyword.Keyword.TheVariants.{Add, Price, Split, Start, Worker}
use Rattle.line_rules.specs.Known.{Known}
use Rattle.line_rules.specs.Reading.{IsFitLine}
use Rattle.plan_text.specs.Tidy.{IsTidyRow}
use Rattle.plan_text.proofs.Named.{row_named}
use Rattle.plan_text.proofs.Tidy.{tidy_of}
use Rattle.plan_text.proofs.Words.{line}
use Rattle.script_text.specs.Commands.{word_at}
use Rattle.script_text.specs.Ready.{HavePair, told_names}
use Rattle.script_text.proofs.Ready.{has_words}
use Rattle.plan_draft.specs.Drafts.{HasDraftWords, HavePrice, IsDraftLine}

-- a start has the words of an `add`: a split and a worker
start_words : (rows : List Statement) (ws : List Word) → IsTidyRow rows (line Start ws)
    → HavePair (told_names rows) ws
start_words rows ws row = has_words rows Add ws refl (record {
  whole = row.whole;
  named = row.named;
  known = row.known;
  in_range = row.in_range;
  rising = tt;
  few = row.few;
  tail_apart = row.tail_apart;
})

price_words : (rows : List Statement) (ws : List Word) → IsTidyRow rows (line Price ws)
    → HavePrice (told_names rows) ws
price_words rows ws row =
    let whole : 2 ≤ length ws = row.whole in
    let first : 0 < length ws = omega arith in
    let second : 1 < length ws = omega arith in
    let amount = row.in_range 1 second in
    record {
      name = elim (row.known 0 first) [
        | inl split ↦
            inl (record { inside = first; known = row_named Split refl rows (word_at ws 0) split })
        | inr worker ↦
            inr (record { inside = first; known = row_named Worker refl rows (word_at ws 0) worker })
      ];
      price = record { inside = second; number = amount.0; small = amount.2 };
    }

draft_words : (rows : List Statement) (k : Keyword) (ws : List Word) → (k ≡ Start) ⊎ (k ≡ Price)
    → IsTidyRow rows (line k ws) → HasDraftWords (told_names rows) k ws
draft_words rows Start ws is row = start_words rows ws row
draft_words rows Price ws is row = price_words rows ws row
draft_words rows k ws (inl is) row = cc
draft_words rows k ws (inr is) row = cc

pub fit_lines_are_whole : (k : Known) (line : Line) (s : Statement) → IsFitLine k line s
    → (s.keyword ≡ Start) ⊎ (s.keyword ≡ Price) → IsDraftLine (told_names k.rows) s
fit_lines_are_whole k line s fit is =
    draft_words k.rows s.keyword s.words is (tidy_of k s fit.says.many fit.fit)
