-- The rows of a text without a fault are tidy.
use Rattle.std.proofs.Common.{ℕ, List, [], ◌∷◌, ◌++◌, ◌≡◌, ◌≢◌, ◌≤◌, ◌<◌, ◌+◌, Option, Some, None, Bool}
use Rattle.std.proofs.Common.{inl, inr, append-nil, arith, cond, get_or, length}
use Rattle.std.proofs.Common.{length-append, subst, sym}
use Rattle.std.specs.List.{All, AllPairs, Contains}
use Rattle.std.proofs.lemmas.List.{map-append}
use Rattle.std.proofs.lemmas.List.Elements.{All-append, All-cons, All-nil, All-weaker, Contains-append_left}
use Rattle.std.proofs.lemmas.List.Elements.{Contains-get_or, filter-append}
use Rattle.std.proofs.lemmas.List.Quantifiers.{all_pairs_push}
use Rattle.text_lines.specs.Texts.{Line, Word}
use Rattle.line_shapes.specs.Lines.{Statement, tail_words}
use Rattle.line_shapes.specs.Places.{place_at, places_of}
use Rattle.line_shapes.specs.declared.keyword.Keyword.{Keyword}
use Rattle.line_shapes.specs.declared.keyword.Keyword.TheVariants.{Add, Ahead, Backup, Centre, Copies, Die}
use Rattle.line_shapes.specs.declared.keyword.Keyword.TheVariants.{Doc, Done}
use Rattle.line_shapes.specs.declared.keyword.Keyword.TheVariants.{Fail, Join, Lose, Rack, Reduce, Split}
use Rattle.line_shapes.specs.declared.keyword.Keyword.TheVariants.{Sweep}
use Rattle.line_shapes.specs.declared.keyword.Keyword.TheVariants.{Wave, Withdraw, Worker}
use Rattle.line_shapes.specs.declared.place.Kind.{Kind}
use Rattle.line_shapes.specs.declared.place.Kind.TheVariants.{Priced}
use Rattle.line_shapes.specs.declared.place.Place.{Place}
use Rattle.line_shapes.specs.declared.place.Place.TheVariants.{Used}
use Rattle.line_rules.specs.Entering.{Key, entered_of, key_of, most_holders, most_more_of, most_of}
use Rattle.line_rules.specs.Entering.{most_workers, newer_limit}
use Rattle.line_rules.specs.Faults.{IsFewer, IsDeclaredIn, IsFew, IsFit, IsFirst, Keep}
use Rattle.line_rules.specs.Known.{HasRow, IsDeclared, Known, entered, is_of, keys_of, known_at, rows_of}
use Rattle.line_rules.specs.Reading.{AreFitLines, IsAllRead}
use Rattle.line_rules.specs.declared.edition.Version.{Version}
use Rattle.line_rules.specs.declared.edition.Version.TheVariants.{One, Two, Three}
use Rattle.line_rules.specs.declared.purpose.Purpose.{Purpose}
use Rattle.line_rules.specs.declared.purpose.Purpose.TheVariants.{Checking, Planning, Playing, Running}
use Rattle.line_rules.specs.declared.rule.Rule.TheVariants as rule
use Rattle.line_rules.proofs.FitLines.{known_after, names_after}
use Rattle.line_rules.proofs.Fits.{fit_first}
use Rattle.line_rules.proofs.Sound.{named_long}
use Rattle.plan_text.specs.Names.{rows_in}
use Rattle.plan_text.specs.Tidy.{AreTidy, IsTidyRow}
use Rattle.line_rules.proofs.OfKeyword.{keyword_of}

-- ---- what is declared stays declared

module _ (rows more : List Statement) where
  pub has_row-more : (k : Keyword) (n : Word) → HasRow rows k n → HasRow (rows ++ more) k n
  has_row-more k n h =
      subst (λ (ks : List Key). Contains ks (k, n, [])) (sym (map-append key_of rows more))
      (Contains-append_left (keys_of rows) (keys_of more) (k, n, []) h)

  declared-more : (kind : Kind) (n : Word) → IsDeclared rows kind n → IsDeclared (rows ++ more) kind n
  declared-more Priced n (inl h) = inl (has_row-more _ n h)
  declared-more Priced n (inr h) = inr (has_row-more _ n h)
  declared-more kind n h = has_row-more _ n h

  keeps-more : (place : Option Place) (w : Word) → IsDeclaredIn rows place w →
      IsDeclaredIn (rows ++ more) place w
  keeps-more (Some (Used kind)) w h = declared-more kind w h
  keeps-more place w h = tt

  pub keep-more : (s : Statement) → Keep rule.Declared rows s → Keep rule.Declared (rows ++ more) s
  keep-more s h i lt = keeps-more (place_at s.keyword i) (get_or s.words i []) (h i lt)

  pub tidy-more : (s : Statement) → IsTidyRow rows s → IsTidyRow (rows ++ more) s
  tidy-more s h = record {
    whole = h.whole;
    named = h.named;
    known = keep-more s h.known;
    in_range = h.in_range;
    rising = h.rising;
    few = h.few;
    tail_apart = h.tail_apart;
  }

-- no more lines of a keyword than there may be in the newest version, and none entered twice
pub record AreKept (purpose : Purpose) (rows : List Statement) : Type 0 where
  pub few : (k : Keyword) → IsFew (most_of Three purpose k) (length (rows_of k rows))
  differ : AllPairs (λ a b. a ≢ b) (keys_of rows)
  each : All (IsTidyRow rows) rows

-- ---- one line more

few-one : (most : Option ℕ) (n m : ℕ) → IsFewer most n → m ≡ n + 1 → IsFew most m
few-one None n m room is = tt
few-one (Some most) n m room is = let room : n < most = room in omega arith

abbrev count : Keyword → List Statement → ℕ
count k rows = length (rows_of k rows)

count-more : (k : Keyword) (rows : List Statement) (s : Statement) (b : Bool) → is_of k s ≡ b
    → count k (rows ++ s ∷ []) ≡ count k rows + length (cond b (s ∷ []) [])
count-more k rows s b is = grind (arith, filter-append, length-append)

few-more : (purpose : Purpose) (k : Keyword) (rows : List Statement) (s : Statement)
    → IsFew (most_of Three purpose k) (count k rows)
    → IsFewer (most_of Three purpose s.keyword) (count s.keyword rows)
    → IsFew (most_of Three purpose k) (count k (rows ++ s ∷ []))
few-more purpose k rows s few room = grind (arith, keyword_of, few-one, count-more)

-- the greater limit holds in the newest version, if in any
newer-newest : (version : Version) (less more : ℕ) → less ≤ more
    → newer_limit version less more ≤ newer_limit Three less more
newer-newest One less more few = few
newer-newest Two less more few = few
newer-newest Three less more few = omega arith

workers-newest : (version : Version) (purpose : Purpose)
    → most_workers version purpose ≤ most_workers Three purpose
workers-newest version Running = newer-newest version 32 1024 (omega arith)
workers-newest version Playing = newer-newest version 256 32768 (omega arith)
workers-newest version Checking = newer-newest version 256 32768 (omega arith)
workers-newest version Planning = newer-newest version 256 32768 (omega arith)

fewer-more : (few many n : ℕ) → few ≤ many → n < few → n < many
fewer-more few many n le lt = omega (arith, le, lt)

lines-newest : (version : Version) (n : ℕ) → n < newer_limit version 65536 1048576
    → n < newer_limit Three 65536 1048576
lines-newest version n room = fewer-more _ _ n (newer-newest version 65536 1048576 (omega arith)) room

-- where there is room for one more, there is in the newest version
fewer-newest : (version : Version) (purpose : Purpose) (k : Keyword) (n : ℕ)
    → IsFewer (most_of version purpose k) n → IsFewer (most_of Three purpose k) n
fewer-newest version purpose Centre n room =
    fewer-more _ _ n (newer-newest version 8 256 (omega arith)) room
fewer-newest version purpose Rack n room =
    fewer-more _ _ n (newer-newest version 32 4096 (omega arith)) room
fewer-newest version purpose Worker n room = fewer-more _ _ n (workers-newest version purpose) room
fewer-newest version purpose Split n room =
    fewer-more _ _ n (newer-newest version 1024 131072 (omega arith)) room
fewer-newest version purpose Doc n room = lines-newest version n room
fewer-newest version purpose Wave n room = lines-newest version n room
fewer-newest version purpose Ahead n room = lines-newest version n room
fewer-newest version purpose Done n room = lines-newest version n room
fewer-newest version purpose Fail n room = lines-newest version n room
fewer-newest version purpose Withdraw n room = lines-newest version n room
fewer-newest version purpose Die n room = lines-newest version n room
fewer-newest version purpose Join n room = lines-newest version n room
fewer-newest version purpose Add n room = lines-newest version n room
fewer-newest version purpose Lose n room = lines-newest version n room
fewer-newest version purpose Sweep n room = lines-newest version n room
fewer-newest version purpose Reduce n room = lines-newest version n room
fewer-newest version purpose Copies n room = lines-newest version n room
fewer-newest version purpose Backup n room = lines-newest version n room
fewer-newest version purpose k n room = room

-- and where no more words follow than may, they are no more than may in the newest version
holders-newest : (version : Version) → most_holders version ≤ most_holders Three
holders-newest version = newer-newest version 8 16 (omega arith)

few-newest : (version : Version) (k : Keyword) (n : ℕ) → IsFew (most_more_of version k) n
    → IsFew (most_more_of Three k) n
few-newest version Split n few = omega (arith, few, holders-newest version)
few-newest version k n few = few

fresh : (rows : List Statement) (s : Statement) → IsFirst rows s → (i : ℕ) (d : Key) →
    i < length (keys_of rows)
    → get_or (keys_of rows) i d ≢ key_of s
fresh rows s first i d lt same =
    first (subst (Contains (keys_of rows)) same (Contains-get_or (keys_of rows) i d lt))

-- a line without a fault is as tidy as a row is
pub tidy_of : (k : Known) (s : Statement) → length (places_of s.keyword) ≤ length s.words → IsFit k s
    → IsTidyRow k.rows s
tidy_of k s whole fit = record {
  whole = whole;
  named = named_long k.version s fit.named;
  known = fit.known;
  in_range = fit.in_range.places;
  rising = fit.in_range.rising;
  few = few-newest k.version s.keyword (length (tail_words s)) fit.within_limit.few;
  tail_apart = fit.tail_apart;
}

-- a line that is entered leaves the rows tidy
tidy-row : (k : Known) (s : Statement) → length (places_of s.keyword) ≤ length s.words → IsFit k s
    → IsFewer (most_of k.version k.purpose s.keyword) (count s.keyword k.rows) → IsFirst k.rows s →
    AreKept k.purpose k.rows
    → AreKept k.purpose (k.rows ++ s ∷ [])
tidy-row k s whole fit room first kept =
    let rows = k.rows in
    let P = IsTidyRow (rows ++ s ∷ []) in
    record {
      few = λ j. few-more k.purpose j rows s (kept.few j)
          (fewer-newest k.version k.purpose s.keyword (count s.keyword rows) room);
      differ = subst (AllPairs (λ a b. a ≢ b)) (sym (map-append key_of rows (s ∷ [])))
          (all_pairs_push (λ a b. a ≢ b) (keys_of rows) (key_of s) kept.differ (fresh rows s first));
      each = All-append P rows (s ∷ [])
          (All-weaker (IsTidyRow rows) P (tidy-more rows (s ∷ [])) rows kept.each)
          (All-cons P s [] (tidy-more rows (s ∷ []) s (tidy_of k s whole fit)) (All-nil P));
    }

tidy-entered : (k : Known) (s : Statement) → length (places_of s.keyword) ≤ length s.words → IsFit k s
    → AreKept k.purpose k.rows → AreKept k.purpose (k.rows ++ entered_of s)
tidy-entered k s whole fit kept = grind (arith, tidy-row, fit_first, append-nil)

-- ---- all lines

pub tidy-none : (purpose : Purpose) → AreKept purpose []
tidy-none purpose = grind arith

pub kept-after : (k : Known) (ls : List Line) (ss : List Statement) → AreFitLines k ls ss →
    AreKept k.purpose k.rows
    → AreKept k.purpose (names_after k ss).rows
kept-after k [] [] fits kept = kept
kept-after k (l ∷ ls) (s ∷ ss) fits kept =
    kept-after (entered k s) ls ss fits.1 (tidy-entered k s fits.0.says.many fits.0.fit kept)
kept-after k ls ss fits kept = absurd fits

tidy : (purpose : Purpose) (rows : List Statement) → AreKept purpose rows → AreTidy rows
tidy purpose rows kept = grind arith

pub tidy-rows : (purpose : Purpose) (ls : List Line) (ss : List Statement) →
    AreFitLines (known_at purpose []) ls ss
    → AreTidy (rows_in ss)
tidy-rows purpose ls ss fits = grind (arith, tidy, known_after, kept-after, tidy-none)

pub tidy-read : (purpose : Purpose) (text : List ℕ) (k : Known) → IsAllRead purpose text k → AreTidy k.rows
tidy-read purpose text k read = grind (arith, tidy-rows)
