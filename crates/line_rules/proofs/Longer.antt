-- A line with more words than it may have is answered as if one of those past them stood for all.
use Rattle.std.proofs.Common.{ℕ, List, [], ◌∷◌, ◌++◌, ◌≡◌, ◌≢◌, ◌≤◌, ◌<◌, ◌+◌, ◌∙◌, Option, Some, None}
use Rattle.std.proofs.Common.{arith, drop, get_or, length, length-append, length-drop, refl}
use Rattle.std.proofs.Common.{subst, sym}
use Rattle.std.specs.List.{All, Contains}
use Rattle.std.proofs.lemmas.List.{get_or_append_left}
use Rattle.text_lines.specs.Texts.{Word}
use Rattle.text_lines.specs.Faults.{number_of_fault}
use Rattle.text_lines.specs.declared.fault.Fault.{Fault}
use Rattle.text_lines.specs.declared.fault.Fault.TheVariants.{Shape}
use Rattle.line_shapes.specs.Demands.{HasShape}
use Rattle.line_shapes.specs.Lines.{HasTailApart, IsShaped, Statement, tail_words}
use Rattle.line_shapes.specs.Places.{more_of, places_of}
use Rattle.line_shapes.specs.declared.keyword.Keyword.{Keyword}
use Rattle.line_shapes.specs.declared.keyword.Keyword.TheVariants as keyword
use Rattle.line_shapes.specs.declared.place.Place.TheVariants.{Text}
use Rattle.line_rules.specs.Entering.{follow_of, most_holders, most_more_of}
use Rattle.line_rules.specs.declared.entering.Follow.{Follow}
use Rattle.line_rules.specs.declared.entering.Follow.TheVariants.{Any, Centre, Counts, Slots}
use Rattle.line_rules.specs.Faults.{IsComplete, IsDeclaredIn, MayFollow}
use Rattle.line_rules.specs.Faults.{IsLeastOf, IsWithinLimit, Keep}
use Rattle.line_rules.specs.Known.{HasRow, Known, rows_of}
use Rattle.line_rules.specs.Long.{IsUsed, IsWorst, StandsFor, WordsHave, most_more, most_words, said}
use Rattle.line_rules.specs.declared.rule.Rule.TheVariants as rule
use Rattle.line_rules.proofs.Apart.{few_names}
use Rattle.line_rules.proofs.Crowded.{crowd_stands}
use Rattle.line_rules.proofs.EachPlace.{EachIn, each_tail, past_places}

-- ---- lines that have no shape, or not as many words as have to follow

lowest : (g : Fault) → 1 ≤ number_of_fault g
lowest Shape = omega arith
lowest g = omega arith

only_lowest : (f : Fault) → number_of_fault f ≤ 1 → f ≡ Shape
only_lowest Shape h = refl
only_lowest f h = absurd (omega (arith, h))

pub shape_least : (k : Known) (word : Keyword) (ws : List Word)
    → (IsShaped (said word ws) → IsComplete k (said word ws) → ⊥) → IsLeastOf (WordsHave k word ws) Shape
shape_least k word ws shapeless = record { applies = shapeless; least = λ g h. lowest g }

-- where both lists have the lowest fault
both_shapeless : (k : Known) (word : Keyword) (short long : List Word)
    → (IsShaped (said word short) → IsComplete k (said word short) → ⊥)
    → (IsShaped (said word long) → IsComplete k (said word long) → ⊥) → StandsFor k word short long
both_shapeless k word short long of_short of_long = record {
  least = λ f h. subst (IsLeastOf (WordsHave k word long)) (sym (only_lowest f (h.least Shape of_short)))
      (shape_least k word long of_long);
  fit = λ shaped fit. absurd (of_short shaped fit.whole);
}

-- a word past the places has no place where none may follow
no_place : (word : Keyword) (ws vs : List Word) → length (places_of word) ≤ length ws → 0 < length vs
    → more_of word ≡ None → IsShaped (said word (ws ++ vs)) → ⊥
no_place word ws vs past some none shaped =
    subst (λ place. HasShape place (get_or (ws ++ vs) (length ws) []))
    (past_places word (length ws) past ∙ none)
    (shaped.shape (length ws) (omega (arith, length-append ws vs, some)))

-- how many words follow those in the places
tail_longer : (word : Keyword) (ws vs : List Word) (n : ℕ) → length (places_of word) + n ≤ length ws
    → 0 < length vs → n < length (tail_words (said word (ws ++ vs)))
tail_longer word ws vs n past some =
    omega (arith, length-drop (length (places_of word)) (ws ++ vs), length-append ws vs, past, some)

-- no more words follow than may, where that is told
follow_few : (k : Known) (f : Follow) (few : Option ℕ) (n : ℕ) → f ≢ Any → MayFollow f k n
    → n ≤ most_more f few k
follow_few k Any few n told may = absurd (told refl)
follow_few k Centre few n told may = omega (arith, may)
follow_few k Counts few n told may = omega (arith, may)
follow_few k Slots few n told may = may

-- more words follow than may
too_many : (k : Known) (word : Keyword) (ws xs : List Word) → follow_of word ≢ Any
    → most_words k word ≤ length ws → 0 < length xs → IsComplete k (said word (ws ++ xs)) → ⊥
too_many k word ws xs told past some whole =
    let few : Option ℕ = most_more_of k.version word in
    omega (
      arith,
      tail_longer word ws xs (most_more (follow_of word) few k) past some,
      follow_few k (follow_of word) few (length (tail_words (said word (ws ++ xs)))) told whole,
    )

-- ---- the two keywords whose names may be any number

-- a split with more holders than it may have
long_split : (k : Known) (ws vs : List Word) (v : Word) → 2 + most_holders k.version ≤ length ws
    → Contains vs v
    → IsWorst k.version k.rows (more_of keyword.Split) vs v → StandsFor k keyword.Split (ws ++ v ∷ []) (ws ++ vs)
long_split k ws vs v past one worst =
    let first : get_or (ws ++ v ∷ []) 0 [] ≡ get_or (ws ++ vs) 0 [] =
    get_or_append_left ws (v ∷ []) [] 0 (omega (arith, past))
    ∙ sym (get_or_append_left ws vs [] 0 (omega (arith, past))) in
    let most = most_holders k.version in
    let full : most < length (tail_words (said keyword.Split (ws ++ v ∷ []))) =
    tail_longer keyword.Split ws (v ∷ []) most past (omega arith) in
    let over : IsWithinLimit k (said keyword.Split (ws ++ v ∷ [])) → ⊥ =
    λ within. (let few : length (tail_words (said keyword.Split (ws ++ v ∷ []))) ≤ most = within.few in
    omega (arith, full, few)) in
    crowd_stands k keyword.Split ws vs v (omega (arith, past)) one worst _ refl (λ xs. tt)
    (λ i. (keyword.Split, first i, [])) (λ within. absurd (over within))
    (λ within declared apart. over within)

-- the splits that a worker joins with are declared
names_after : (rows : List Statement) (ws : List Word) → 1 ≤ length ws
    → EachIn (IsDeclaredIn rows) keyword.Join ws → All (HasRow rows keyword.Split) (drop 1 ws)
names_after rows [] some each = absurd (omega (arith, some))
names_after rows (w ∷ ws) some each =
    each_tail (IsDeclaredIn rows) keyword.Join (w ∷ []) ws (omega arith) each

-- a worker that joins with more splits than there are
long_join : (k : Known) (ws vs : List Word) (v : Word)
    → 1 + length (rows_of keyword.Split k.rows) ≤ length ws → Contains vs v
    → IsWorst k.version k.rows (more_of keyword.Join) vs v → StandsFor k keyword.Join (ws ++ v ∷ []) (ws ++ vs)
long_join k ws vs v past one worst =
    let short : Statement = said keyword.Join (ws ++ v ∷ []) in
    let more : length (rows_of keyword.Split k.rows) < length (tail_words short) =
    tail_longer keyword.Join ws (v ∷ []) (length (rows_of keyword.Split k.rows)) past (omega arith) in
    let front : 1 ≤ length ws = omega (arith, past) in
    let crowded : Keep rule.Declared k.rows short → HasTailApart short → ⊥ = λ declared apart.
    (let rows : All (HasRow k.rows keyword.Split) (tail_words short) =
    names_after k.rows (ws ++ v ∷ []) (omega (arith, length-append ws (v ∷ []))) declared in
    let few = few_names keyword.Split k.rows (tail_words short) apart rows in omega (arith, more, few)) in
    crowd_stands k keyword.Join ws vs v front one worst _ refl (λ xs. tt) refl
    (λ within. record { room = within.room; few = tt }) (λ within declared apart. crowded declared apart)

-- ---- any keyword

some_left : (vs : List Word) (v : Word) → Contains vs v → 0 < length vs
some_left vs v one = let inside : one.0 < length vs = one.1 in omega (arith, inside)

-- where no word may follow the places
placeless : (k : Known) (word : Keyword) (ws vs : List Word) (v : Word) → length (places_of word) ≤ length ws
    → Contains vs v → more_of word ≡ None → StandsFor k word (ws ++ v ∷ []) (ws ++ vs)
placeless k word ws vs v past one none =
    both_shapeless k word (ws ++ v ∷ []) (ws ++ vs)
    (λ shaped whole. no_place word ws (v ∷ []) past (omega arith) none shaped)
    (λ shaped whole. no_place word ws vs past (some_left vs v one) none shaped)

-- where it is told how many may follow them
incomplete : (k : Known) (word : Keyword) (ws vs : List Word) (v : Word) → follow_of word ≢ Any
    → most_words k word ≤ length ws → Contains vs v → StandsFor k word (ws ++ v ∷ []) (ws ++ vs)
incomplete k word ws vs v told past one =
    both_shapeless k word (ws ++ v ∷ []) (ws ++ vs)
    (λ shaped. too_many k word ws (v ∷ []) told past (omega arith))
    (λ shaped. too_many k word ws vs told past (some_left vs v one))

pub stands : (k : Known) (word : Keyword) (ws vs : List Word) (v : Word) → most_words k word ≤ length ws
    → Contains vs v → (more_of word ≡ Some Text → ⊥)
    → (IsUsed (more_of word) → IsWorst k.version k.rows (more_of word) vs v)
    → StandsFor k word (ws ++ v ∷ []) (ws ++ vs)
stands k keyword.Rack ws vs v past one not_text worst =
    incomplete k keyword.Rack ws vs v (λ e. cc) past one
stands k keyword.Places ws vs v past one not_text worst =
    incomplete k keyword.Places ws vs v (λ e. cc) past one
stands k keyword.Ahead ws vs v past one not_text worst =
    incomplete k keyword.Ahead ws vs v (λ e. cc) past one
stands k keyword.Sweep ws vs v past one not_text worst =
    incomplete k keyword.Sweep ws vs v (λ e. cc) past one
stands k keyword.Split ws vs v past one not_text worst = long_split k ws vs v past one (worst tt)
stands k keyword.Join ws vs v past one not_text worst = long_join k ws vs v past one (worst tt)
stands k keyword.Doc ws vs v past one not_text worst = absurd (not_text refl)
stands k word ws vs v past one not_text worst = placeless k word ws vs v (omega (arith, past)) one refl
