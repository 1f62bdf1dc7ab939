-- What the rows of a text without a fault come to, line by line of each keyword.
use Rattle.std.proofs.Common.{ℕ, List, [], ◌∷◌, ◌≡◌, ◌≤◌, ◌<◌, arith, get_or, length, refl, subst, suc, sym}
use Rattle.std.specs.List.{All}
use Rattle.std.proofs.lemmas.List.{get_or_default, length-map}
use Rattle.std.proofs.lemmas.List.Elements.{All-filter, filter_passes}
use Rattle.text_lines.specs.Texts.{Word}
use Rattle.line_shapes.specs.Lines.{Statement}
use Rattle.line_shapes.specs.declared.keyword.Keyword.{Keyword}
use Rattle.line_shapes.specs.declared.keyword.Keyword.TheVariants.{Rack, Worker, Split, Barred, Start, Price}
use Rattle.line_shapes.specs.declared.keyword.Keyword.TheVariants.{Places}
use Rattle.line_rules.specs.Known.{HasRow, is_of, nth_row, rows_of}
use Rattle.plan_text.specs.Names.{names_of}
use Rattle.plan_text.specs.Tidy.{AreTidy, IsTidyBar, IsTidyPrice, IsTidyRow, IsTidySplit, IsTidyStart}
use Rattle.plan_text.specs.Tidy.{IsAtMost, IsTidyPlaces, IsTidyWorker}
use Rattle.line_rules.proofs.OfKeyword.{keyword_of}
use Rattle.line_rules.proofs.Rises.{is_price}
use Rattle.price_certificate.specs.declared.TheConstants.{MAX_PLACE_PRICE}
use Rattle.plan_text.proofs.Named.{row_named}

-- the line of this keyword and these words
abbrev pub line : Keyword → List Word → Statement
line k words = record { keyword = k; words = words }

-- what holds of each tidy row of a keyword holds of its lines
pub each_of_keyword : (k : Keyword) (P : Statement → Type 0) (rows : List Statement) → AreTidy rows
    → ((words : List Word) → IsTidyRow rows (line k words) → P (line k words)) → All P (rows_of k rows)
each_of_keyword k P rows tidy each i d lt =
    let s : Statement = get_or (rows_of k rows) i d in
    let same : s.keyword ≡ k = keyword_of k s (filter_passes (is_of k) rows i d lt) in
    let as_line : s ≡ line k s.words = λ j. record { keyword = same j; words = s.words } in
    let row : IsTidyRow rows s = All-filter (is_of k) (IsTidyRow rows) rows tidy.each i d lt in
    subst P (sym as_line) (each s.words (subst (IsTidyRow rows) as_line row))

tidy_worker : (rows : List Statement) (words : List Word) → IsTidyRow rows (line Worker words)
    → IsTidyWorker (names_of Rack rows) (line Worker words)
tidy_worker rows words row =
    let whole : 3 ≤ length words = row.whole in
    let slots = row.in_range 2 (omega arith) in
    grind (arith, row_named)

tidy_split : (rows : List Statement) (words : List Word) → IsTidyRow rows (line Split words)
    → IsTidySplit (names_of Worker rows) (line Split words)
tidy_split rows [] row = absurd (let whole : 2 ≤ length {A = Word} [] = row.whole in omega arith)
tidy_split rows (a ∷ []) row = absurd (let whole : 2 ≤ length (a ∷ []) = row.whole in omega arith)
tidy_split rows (a ∷ b ∷ ws) row =
    let bytes = row.in_range 1 (omega arith) in
    record {
      is_split = refl;
      whole = omega arith;
      bytes = record { number = bytes.0; most = bytes.2 };
      few_holders = row.few;
      holders = λ i d lt. row_named Worker refl rows (get_or ws i d)
          (subst (λ (w : Word). HasRow rows Worker w) (get_or_default ws i [] d lt)
          (row.known (suc (suc i)) (omega arith)));
      holders_differ = row.tail_apart;
    }

tidy_bar : (rows : List Statement) (words : List Word) → IsTidyRow rows (line Barred words)
    → IsTidyBar (names_of Split rows) (names_of Worker rows) (line Barred words)
tidy_bar rows words row =
    let whole : 2 ≤ length words = row.whole in
    record {
      split = row_named Split refl rows (get_or words 0 []) (row.known 0 (omega arith));
      worker = row_named Worker refl rows (get_or words 1 []) (row.known 1 (omega arith));
    }

tidy_start : (rows : List Statement) (words : List Word) → IsTidyRow rows (line Start words)
    → IsTidyStart (names_of Worker rows) (line Start words)
tidy_start rows words row =
    let whole : 2 ≤ length words = row.whole in
    row_named Worker refl rows (get_or words 1 []) (row.known 1 (omega arith))

tidy_place_prices : (rows : List Statement) (words : List Word) → IsTidyRow rows (line Places words)
    → IsTidyPlaces (line Places words)
tidy_place_prices rows [] row = absurd (let whole : 2 ≤ length {A = Word} [] = row.whole in omega arith)
tidy_place_prices rows (a ∷ ws) row = record {
  is_places = refl;
  whole = omega arith;
  each = λ i d lt.
      let price = is_price (get_or ws i []) (suc i) (omega arith) (row.in_range (suc i) (omega (arith, lt))) in
      subst (λ (w : Word). IsAtMost w MAX_PLACE_PRICE) (get_or_default ws i [] d lt)
      (record { number = price.0; most = price.2 });
  rising = row.rising;
}

tidy_price : (rows : List Statement) (words : List Word) → IsTidyRow rows (line Price words)
    → IsTidyPrice (line Price words)
tidy_price rows words row = grind arith

module _ (rows : List Statement) (tidy : AreTidy rows) where
  pub tidy_workers : All (IsTidyWorker (names_of Rack rows)) (rows_of Worker rows)
  tidy_workers = each_of_keyword Worker (IsTidyWorker (names_of Rack rows)) rows tidy (tidy_worker rows)

  pub tidy_splits : All (IsTidySplit (names_of Worker rows)) (rows_of Split rows)
  tidy_splits = each_of_keyword Split (IsTidySplit (names_of Worker rows)) rows tidy (tidy_split rows)

  pub tidy_bars : All (IsTidyBar (names_of Split rows) (names_of Worker rows)) (rows_of Barred rows)
  tidy_bars = each_of_keyword Barred (IsTidyBar (names_of Split rows) (names_of Worker rows)) rows tidy
      (tidy_bar rows)

  pub tidy_starts : All (IsTidyStart (names_of Worker rows)) (rows_of Start rows)
  tidy_starts = each_of_keyword Start (IsTidyStart (names_of Worker rows)) rows tidy (tidy_start rows)

  pub tidy_prices : All IsTidyPrice (rows_of Price rows)
  tidy_prices = each_of_keyword Price IsTidyPrice rows tidy (tidy_price rows)

  pub tidy_places : All IsTidyPlaces (rows_of Places rows)
  tidy_places = each_of_keyword Places IsTidyPlaces rows tidy (tidy_place_prices rows)

  -- of the row with a number
  pub worker_at : (n : ℕ) → n < length (rows_of Worker rows)
      → IsTidyWorker (names_of Rack rows) (nth_row Worker n rows)
  worker_at n lt = tidy_workers n (line Worker []) lt

  pub split_at : (n : ℕ) → n < length (rows_of Split rows)
      → IsTidySplit (names_of Worker rows) (nth_row Split n rows)
  split_at n lt = tidy_splits n (line Split []) lt

  pub bar_at : (n : ℕ) → n < length (rows_of Barred rows)
      → IsTidyBar (names_of Split rows) (names_of Worker rows) (nth_row Barred n rows)
  bar_at n lt = tidy_bars n (line Barred []) lt

  pub start_at : (n : ℕ) → n < length (rows_of Start rows)
      → IsTidyStart (names_of Worker rows) (nth_row Start n rows)
  start_at n lt = tidy_starts n (line Start []) lt

  pub price_at : (n : ℕ) → n < length (rows_of Price rows) → IsTidyPrice (nth_row Price n rows)
  price_at n lt = tidy_prices n (line Price []) lt

  pub places_at : (n : ℕ) → n < length (rows_of Places rows) → IsTidyPlaces (nth_row Places n rows)
  places_at n lt = tidy_places n (line Places []) lt

  pub few_names : (k : Keyword) (n : ℕ) → length (rows_of k rows) ≤ n → length (names_of k rows) ≤ n
  few_names k n few = rw length-map few
