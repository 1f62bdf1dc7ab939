-- Names that are told apart by the numbers of the splits that they name.
use Rattle.std.proofs.Common.{ℕ, List, [], ◌∷◌, ◌≡◌, ◌≢◌, ◌<◌, ◌-◌, ◌∙◌, Bool, Bor, true, false, Some, arith}
use Rattle.std.proofs.Common.{drop, get_or, length, length-drop, refl, replicate, suc, sym, take}
use Rattle.std.proofs.Common.{take_all, true≢false, zero}
use Rattle.std.specs.Prelude.{slice_index_or}
use Rattle.std.specs.List.{AllPairs}
use Rattle.text_lines.specs.Texts.{Word}
use Rattle.line_shapes.specs.Lines.{HasTailApart, Statement, stated}
use Rattle.line_shapes.specs.Places.{place_at}
use Rattle.line_shapes.specs.declared.keyword.Keyword.TheVariants.{Join, Split}
use Rattle.line_shapes.specs.declared.place.Kind.TheVariants as kind
use Rattle.line_shapes.specs.declared.place.Place.TheVariants.{Used}
use Rattle.line_shapes.proofs.Mapped.{AllPairs-map, AllPairs-unmap}
use Rattle.line_rules.specs.Entered.{AreFit, IsFitIn}
use Rattle.line_rules.specs.Known.{HasRow}
use Rattle.line_rules.specs.Rows.{Firsts, NameTwice, first_by}
use Rattle.line_rules.specs.declared.edition.Version.{Version}
use Rattle.line_rules.proofs.Kept.{of_words}

-- the name is a split's, and the split's number is marked
pub record IsSeen (firsts : Firsts) (seen : List Bool) (name : Word) : Type 0 where
  pub some : 0 < length name
  pub number : ℕ
  pub is : first_by firsts name ≡ Some (Split, number)
  pub marked : slice_index_or seen number false ≡ true

-- one of the names before this place is that of this split
pub record WasNamed (firsts : Firsts) (names : List (Bor (List ℕ))) (i number : ℕ) : Type 0 where
  pub place : ℕ
  pub before : place < i
  pub is : (d : Bor (List ℕ)) → first_by firsts (slice_index_or names place d).now ≡ Some (Split, number)

pub unmarked : (n m : ℕ) → slice_index_or (replicate n false) m false ≡ false
unmarked zero m = refl
unmarked (suc n) zero = refl
unmarked (suc n) (suc m) = unmarked n m

pub none_named : (firsts : Firsts) (names : List (Bor (List ℕ))) (marks : List Bool)
    → ((m : ℕ) → slice_index_or marks m false ≡ false)
    → (m : ℕ) → slice_index_or marks m false ≡ true → WasNamed firsts names 0 m
none_named firsts names marks none m marked = absurd (true≢false (sym marked ∙ none m))

-- names of one split are one name, where no two names have one number
pub not_apart : (firsts : Firsts) (names : List (Bor (List ℕ)))
    → ((a b : Word) (n : ℕ) → first_by firsts a ≡ Some (Split, n) → first_by firsts b ≡ Some (Split, n)
    → a ≡ b)
    → NameTwice firsts names → AllPairs (λ a b. a.now ≢ b.now) names → ⊥
not_apart firsts [] one twice apart = absurd (omega (arith, twice.inside))
not_apart firsts (name ∷ names) one twice apart =
    apart twice.first twice.second name twice.before twice.inside
    (one _ _ twice.number (twice.one name) (twice.other name))

-- ---- a join: a worker, and splits

-- the words behind the worker, as a slice has them
pub behind : (words : List (Bor (List ℕ))) → take (length words - 1) (drop 1 words) ≡ drop 1 words
behind words = grind (arith, take_all, length-drop)

abbrev pub AreSplits : List Statement → List (Bor (List ℕ)) → Type 0
AreSplits rows ws = (k : ℕ) (d : Bor (List ℕ)) → k < length ws
    → (0 < length (get_or ws k d).now) × HasRow rows Split (get_or ws k d).now

module _ (version : Version) (rows : List Statement) where
  abbrev Fits : ℕ → Word → Type 0
  Fits i w = IsFitIn version rows (place_at Join i) w

  fits_behind : (w : Bor (List ℕ)) (ws : List (Bor (List ℕ))) → Fits 0 w.now → AreSplits rows ws
      → (i : ℕ) (d : Bor (List ℕ)) → i < length (w ∷ ws) → Fits i (get_or (w ∷ ws) i d).now
  fits_behind w ws first splits zero d lt = first
  fits_behind w ws first splits (suc i) d lt = splits i d (omega (arith, lt))

  pub joined_fit : (words : List (Bor (List ℕ))) (w : Bor (List ℕ))
      → IsFitIn version rows (Some (Used kind.Worker)) (get_or words 0 w).now → AreSplits rows (drop 1 words)
      → AreFit version rows (stated Join words)
  joined_fit [] v first splits i lt = absurd (omega (arith, lt))
  joined_fit (w ∷ ws) v first splits i lt = of_words Fits (w ∷ ws) (fits_behind w ws first splits) i lt

pub joined_apart : (words : List (Bor (List ℕ))) → AllPairs (λ a b. a.now ≢ b.now) (drop 1 words)
    → HasTailApart (stated Join words)
joined_apart [] apart i j d lt inside = absurd (omega (arith, inside))
joined_apart (w ∷ ws) apart i j d lt inside =
    AllPairs-map (λ (a b : List ℕ). a ≢ b) (λ w. w.now) ws apart i j d lt inside

pub joined_differ : (words : List (Bor (List ℕ))) → HasTailApart (stated Join words)
    → AllPairs (λ a b. a.now ≢ b.now) (drop 1 words)
joined_differ [] apart i j d lt inside = absurd (omega (arith, inside))
joined_differ (w ∷ ws) apart i j d lt inside =
    AllPairs-unmap (λ (a b : List ℕ). a ≢ b) (λ w. w.now) ws apart i j d lt inside
