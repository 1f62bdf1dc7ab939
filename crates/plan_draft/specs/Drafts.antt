-- What a client has said of a plan, line by line, and what one line says more.
use Rattle.std.specs.Prelude.{ℕ, List, ◌≡◌, ◌≤◌, ◌<◌, ◌⊎◌, Option, Some, None, if◌then◌else◌, length, map}
use Rattle.std.specs.Prelude.{replicate, slice_index_or, slice_set, unwrap_or}
use Rattle.std.specs.List.{All}
use Rattle.std.specs.Option.{IfSome, IsSome}
use Rattle.price_certificate.specs.PriceList.{PriceList}
use Rattle.text_lines.specs.Texts.{Word, number_of}
use Rattle.line_shapes.specs.Lines.{Statement}
use Rattle.line_shapes.specs.declared.keyword.Keyword.{Keyword}
use Rattle.line_shapes.specs.declared.keyword.Keyword.TheVariants.{Price, Start}
use Rattle.plan_text.specs.Value.{number_in, stands_in}
use Rattle.script_text.specs.Commands.{word_at}
use Rattle.script_text.specs.Ready.{HasName, HasNumber, HavePair}
use Rattle.script_text.specs.declared.script.Names.{Names}

-- ---- a draft

-- what has been said of a plan so far, by number: where splits start, and prices of splits and of workers
pub record DraftView : Type 0 where
  pub starts : List (Option ℕ)
  pub splits : List (Option ℕ)
  pub workers : List (Option ℕ)

-- nothing is said of so many splits and workers
abbrev pub empty_draft : ℕ → ℕ → DraftView
empty_draft splits workers = record {
  starts = replicate splits None;
  splits = replicate splits None;
  workers = replicate workers None;
}

-- what a list says of a number, if it says anything
abbrev pub said_at : List (Option ℕ) → ℕ → Option ℕ
said_at values n = slice_index_or values n None

-- each split and each worker has a price
pub record IsPriced (d : DraftView) : Type 0 where
  pub splits : All IsSome d.splits
  pub workers : All IsSome d.workers

-- 0 where no price is said
abbrev pub prices_in : List (Option ℕ) → List ℕ
prices_in values = map (λ price. unwrap_or price 0) values

abbrev pub prices_said : DraftView → PriceList
prices_said d = record { splits = prices_in d.splits; workers = prices_in d.workers }

-- ---- a line of a plan: `start SPLIT WORKER`, or `price NAME AMOUNT`

-- the name of a split or of a worker, and a price below 2 ^ 64
pub record HavePrice (names : Names) (ws : List Word) : Type 0 where
  pub name : HasName names.splits ws 0 ⊎ HasName names.workers ws 0
  pub price : HasNumber 18446744073709551615 ws 1

-- these words follow `start` or `price`
abbrev pub HasDraftWords : Names → Keyword → List Word → Type 0
HasDraftWords names Start ws = HavePair names ws
HasDraftWords names Price ws = HavePrice names ws
HasDraftWords names k ws = ⊥

-- the line is one, with all its words
abbrev pub IsDraftLine : Names → Statement → Type 0
IsDraftLine names s = HasDraftWords names s.keyword s.words

-- the price that a name has, of a split where the name is that of one, else of a worker
abbrev pub price_of : Names → DraftView → Word → Option ℕ
price_of names d name =
    if stands_in names.splits name then said_at d.splits (number_in names.splits name)
    else said_at d.workers (number_in names.workers name)

abbrev pub with_price : Names → DraftView → Word → ℕ → DraftView
with_price names d name price =
    if stands_in names.splits name
    then record d { splits = slice_set d.splits (number_in names.splits name) (Some price) }
    else record d { workers = slice_set d.workers (number_in names.workers name) (Some price) }

-- what was said before of that of which a line speaks
abbrev pub said_before : Names → DraftView → Keyword → List Word → Option ℕ
said_before names d Start ws = said_at d.starts (number_in names.splits (word_at ws 0))
said_before names d Price ws = price_of names d (word_at ws 0)
said_before names d k ws = None

-- the split starts already, or the name has its price already
abbrev pub IsSaid : Names → DraftView → Statement → Type 0
IsSaid names d s = IsSome (said_before names d s.keyword s.words)

abbrev pub said_after : Names → DraftView → Keyword → List Word → DraftView
said_after names d Start ws = record d {
  starts = slice_set d.starts (number_in names.splits (word_at ws 0))
      (Some (number_in names.workers (word_at ws 1)));
}
said_after names d Price ws = with_price names d (word_at ws 0) (number_of (word_at ws 1))
said_after names d k ws = d

-- what is said after the line
abbrev pub said : Names → DraftView → Statement → DraftView
said names d s = said_after names d s.keyword s.words

-- ---- what every draft keeps to

-- a split has a place for its start and one for its price, none are too many, and each start is on a worker
pub record IsSound (starts splits workers : List (Option ℕ)) : Type 0 where
  pub one_size : length starts ≡ length splits
  pub few_splits : length splits ≤ 131072
  pub few_workers : length workers ≤ 32768
  pub known : All (λ start. IfSome start (λ w. w < length workers)) starts

-- as many splits and workers are named as the draft is of
pub record AreNamesOf (names : Names) (d : DraftView) : Type 0 where
  pub splits : length names.splits ≡ length d.splits
  pub workers : length names.workers ≡ length d.workers
