-- The prices of places that the rows of a text without a fault declare are small, and do not fall.
use Rattle.std.proofs.Common.{ℕ, List, [], ◌≡◌, ◌≤◌, ◌<◌, Option, Some, None, arith, get_or, length, map}
use Rattle.std.proofs.Common.{drop, refl, subst, sym, unwrap_or}
use Rattle.std.specs.List.{All, position}
use Rattle.std.specs.Option.{option_map}
use Rattle.std.specs.Str.{bytes_eq}
use Rattle.std.proofs.lemmas.List.{get_or-map, length-map}
use Rattle.std.proofs.lemmas.List.Elements.{All-map, All-nil}
use Rattle.price_certificate.specs.Places.{ArePlacePrices, IsFitRow}
use Rattle.price_certificate.specs.declared.TheConstants.{MAX_PLACE_PRICE}
use Rattle.text_lines.specs.Texts.{Word, number_of}
use Rattle.line_shapes.specs.Lines.{Statement}
use Rattle.line_shapes.specs.declared.keyword.Keyword.TheVariants.{Places, Worker}
use Rattle.line_rules.specs.Known.{rows_of}
use Rattle.plan_text.specs.Names.{names_in, names_of}
use Rattle.plan_text.specs.Tidy.{AreTidy, IsTidyPlaces}
use Rattle.plan_text.specs.Value.{places_at, places_told}
use Rattle.plan_text.proofs.Parts.{start_inside}
use Rattle.plan_text.proofs.Words.{few_names, line, tidy_places}

told_fit : (s : Statement) → IsTidyPlaces s → IsFitRow (places_told s)
told_fit s tidy = record {
  small = All-map (λ price. price ≤ MAX_PLACE_PRICE) number_of (drop 1 s.words)
      (λ i d lt. (tidy.each i d lt).most);
  rising = λ i j d le lt.
      let ws : List Word = drop 1 s.words in
      let inside : j < length ws = rw length-map at lt in
      omega (
        arith,
        tidy.rising i j [] le inside,
        get_or-map number_of ws i [] d (omega (arith, le, inside)),
        get_or-map number_of ws j [] d inside,
      );
}

none_fit : IsFitRow []
none_fit = record { small = All-nil _; rising = λ i j d le lt. absurd (omega (arith, lt)) }

row_fit : (lines : List Statement) → All IsTidyPlaces lines → (name : Word) → IsFitRow (places_at lines name)
row_fit lines tidy name = by (position (λ n. bytes_eq name n) (names_in lines)) refl
  where
    by : (place : Option ℕ) → position (λ n. bytes_eq name n) (names_in lines) ≡ place
        → IsFitRow (unwrap_or (option_map (λ i. get_or (map places_told lines) i []) place) [])
    by None is = none_fit
    by (Some i) is =
        let inside = start_inside lines name i is in
        subst IsFitRow (sym (get_or-map places_told lines i (line Places []) [] inside))
        (told_fit (get_or lines i (line Places [])) (tidy i (line Places []) inside))

pub rows_fit : (rows : List Statement) → AreTidy rows
    → ArePlacePrices (map (places_at (rows_of Places rows)) (names_of Worker rows))
rows_fit rows tidy =
    let lines = rows_of Places rows in
    let workers = names_of Worker rows in
    record {
      few = omega (arith, length-map workers (places_at lines), few_names rows tidy Worker 32768 tidy.few_workers);
      each = All-map IsFitRow (places_at lines) workers
          (λ i d lt. row_fit lines (tidy_places rows tidy) (get_or workers i d));
    }
