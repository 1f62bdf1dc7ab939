-- The test whether two lists have the same texts.
use Rattle.std.proofs.Common.{◌≡◌, ℕ, ◌<◌, Bool, true, false, ◌&&◌, List, length, get_or, refl, sym, ap, ◌∙◌}
use Rattle.std.proofs.Common.{arith}
use Rattle.std.specs.Arc.{arc_value}
use Rattle.std.specs.declared.alloc.Global.{Global}
use Rattle.std.specs.declared.sync.Arc.{Arc}
use Rattle.std.proofs.lemmas.Bool.{false≢true}
use Rattle.std.specs.Prelude.{◌↔◌, Contains, IsTrue}
use Rattle.std.specs.Bool.{Decides}
use Rattle.std.specs.List.{list_any}
use Rattle.std.proofs.lemmas.List.Sums.{AllPass-from_list_all, list_all-from_AllPass}
use Rattle.std.proofs.lemmas.List.Folds.{list_any-from_Any}
use Rattle.std.proofs.lemmas.List.{get_or-map, get_or_default}
use Rattle.std.proofs.lemmas.Map.Views.{Contains-from_any}
use Rattle.std.proofs.lemmas.List.Elements.{All-contains}
use Rattle.word_map.specs.Texts.{SplitDocuments, same_text}
use Rattle.word_map.proofs.TextLemmas.{Decides-same_text}
use Rattle.shuffle_reduce.specs.Gather.{values_of}
use Rattle.shuffle_reduce.specs.Merged.{AreSameTexts, are_among, same_texts}

-- each text of the one list stands in the other
among : (xs ys : List SplitDocuments) → are_among xs ys ≡ true → (text : SplitDocuments) →
    Contains xs text → Contains ys text
among xs ys all text there =
    Contains-from_any (λ a b. (Decides-same_text a b).0) text ys
    (All-contains (λ t. list_any (same_text t) ys ≡ true) xs text
    (AllPass-from_list_all (λ t. list_any (same_text t) ys) xs all) there)

are_among-all : (xs ys : List SplitDocuments) → ((text : SplitDocuments) → Contains xs text →
    Contains ys text) → are_among xs ys ≡ true
are_among-all xs ys all =
    list_all-from_AllPass (λ t. list_any (same_text t) ys) xs (λ k d l.
    let place = all (get_or xs k d) (k, l, get_or_default xs k _ d l) in
    list_any-from_Any (same_text (get_or xs k d)) ys (
      place.0,
      get_or xs k d,
      place.1,
      place.2,
      (Decides-same_text (get_or xs k d) (get_or xs k d)).1 refl,
    ))

both_true : (x y : Bool) → (x && y) ≡ true → (x ≡ true) × (y ≡ true)
both_true true y h = (refl, h)
both_true false y h = absurd (grind arith)

-- the test tells whether the lists have the same texts
pub Decides-same_texts : (xs ys : List SplitDocuments) → Decides (same_texts xs ys) (AreSameTexts xs ys)
Decides-same_texts xs ys = (
  (λ h. let parts = both_true (are_among xs ys) (are_among ys xs) h in λ text.
      (among xs ys parts.0 text, among ys xs parts.1 text)),
  (λ same. rw (
    are_among-all xs ys (λ text. (same text).0),
    are_among-all ys xs
        (λ text. (same text).1),
  ) refl),
)

-- the first list is the second's, and the answer says whether the second is the first's
pub mutual_then : (xs ys : List SplitDocuments) (b : Bool) →
    ((text : SplitDocuments) → Contains xs text → Contains ys text) →
    (IsTrue b ↔ ((text : SplitDocuments) → Contains ys text → Contains xs text)) →
    IsTrue b ↔ AreSameTexts xs ys
mutual_then xs ys b first second = (
  (λ accepted text. (first text, second.0 accepted text)),
  (λ same. second.1 (λ text. (same text).1)),
)

pub mutual_else : (xs ys : List SplitDocuments) (b : Bool) → b ≡ false →
    (IsTrue b ↔ ((text : SplitDocuments) → Contains xs text → Contains ys text)) →
    IsTrue b ↔ AreSameTexts xs ys
mutual_else xs ys b refused first = (
  (λ accepted. absurd (false≢true (sym refused ∙ accepted))),
  (λ same. first.1 (λ text. (same text).0)),
)

-- lists of the same texts have the same text at each place
pub same_at : (xs ys : List (Arc SplitDocuments Global)) (k : ℕ) (x y : Arc SplitDocuments Global) →
    k < length xs → k < length ys → x ≡ get_or xs k x → y ≡ get_or ys k y → values_of xs ≡ values_of ys →
    arc_value x ≡ arc_value y
same_at xs ys k x y in_xs in_ys at_x at_y same =
    ap arc_value at_x ∙ sym (get_or-map arc_value xs k x (arc_value x) in_xs)
    ∙ ap (λ (l : List SplitDocuments). get_or l k (arc_value x)) same
    ∙ get_or-map arc_value ys k y (arc_value x) in_ys ∙ sym (ap arc_value at_y)
