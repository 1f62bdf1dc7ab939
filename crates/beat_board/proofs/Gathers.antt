-- The maker takes in the seats and the readers, the last first, and reads the words.
use Rattle.std.proofs.Common.{◌≡◌, ℕ, zero, suc, set, slice_index, length-append, get_or-set_same}
use Rattle.std.proofs.Common.{get_or-set_other, ◌+◌, ◌<◌, List, [], ◌∷◌, ◌++◌, length}
use Rattle.std.proofs.Common.{sym, ◌∙◌, subst, arith}
use Rattle.std.proofs.lemmas.List.{append-nil, get_or_append_left, length-set, ext_get_or}
use Rattle.std.proofs.lemmas.List.Elements.{All-push}
use Rattle.std.specs.List.{All}
use mathlib.Core.Option.{some, some-injective, some-ne-none}
use lib.ListN.{get_elem?}
use Rattle.atomic_table.specs.Table.{Final, Seen}
use Rattle.beat_board.specs.declared.view.View.{View}
use Rattle.beat_board.specs.declared.view.Tally.{Tally}
use Rattle.beat_board.specs.declared.view.Look.{Look}
use Rattle.beat_board.specs.Values.{ReaderValue, AreWithin}
use Rattle.beat_board.specs.Views.{reading, making}
use Rattle.beat_board.specs.Rule.{Rule}
use Rattle.beat_board.specs.Steps.{gathers}
use Rattle.beat_board.proofs.Keeps.{Gathered, gathered}

pub remade_looks : (v u : View) (looks xs : List Look) (ts : List Tally) (n m : ℕ)
    → v ≡ gathers u (reading looks)
    → u ≡ making ts xs n m → v ≡ making ts v.looks n m
remade_looks v u looks xs ts n m e f = grind (arith, append-nil)

-- a list whose beginning and end are within the words
front_within : (words : List ℕ) (xs ys : List Look) → AreWithin words (xs ++ ys) → AreWithin words xs
front_within words xs ys h k d lt = grind (arith, get_or_append_left, length-append)

back_within : (words : List ℕ) (xs ys : List Look) → AreWithin words (xs ++ ys) → AreWithin words ys
back_within words [] ys h = h
back_within words (x ∷ xs) ys h = back_within words xs ys (λ j e le. h (suc j) e (omega arith))

-- what was seen of one reader more
pub more_seen : (words : List ℕ) (old new : View) (looks : List Look) (x : ReaderValue)
    (ys zs : List ReaderValue)
    → new ≡ gathers old (reading looks) → looks ≡ x.looks → zs ≡ ys ++ x ∷ [] → AreWithin words new.looks
    → (AreWithin words old.looks → All (λ r. AreWithin words r.looks) ys
    → All (λ r. AreWithin words r.looks) zs)
    × AreWithin words old.looks
more_seen words old new looks x ys zs e is at within =
    let all = subst (λ (v : View). AreWithin words v.looks) e within in
    let mine = subst (AreWithin words) is (front_within words looks old.looks all) in (
      (λ _ others.
          subst (All (λ (r : ReaderValue). AreWithin words r.looks)) (sym at)
          (All-push (λ (r : ReaderValue). AreWithin words r.looks) ys x others mine)),
      back_within words looks old.looks all,
    )

at_elem : (ws : List ℕ) (i r : ℕ) → get_elem? ws i ≡ some r → slice_index ws i ≡ r
at_elem [] i r e = absurd (some-ne-none r (sym e))
at_elem (x ∷ xs) zero r e = some-injective x r e
at_elem (x ∷ xs) (suc i) r e = at_elem xs i r e

-- one word more is read
pub filled : (beats ws : List ℕ) (i r : ℕ) → length beats ≡ 1024 → i < 1024 → get_elem? ws i ≡ some r
    → ((k : ℕ) → k < i → slice_index beats k ≡ slice_index ws k)
    → (length (set beats i r) ≡ 1024)
    × ((k : ℕ) → k < i + 1 → slice_index (set beats i r) k ≡ slice_index ws k)
filled beats ws i r len lt e old = grind (arith, length-set, get_or-set_same, at_elem, get_or-set_other)

-- all words are read
pub all_filled : (beats ws : List ℕ) → length beats ≡ 1024 → length ws ≡ 1024
    → ((k : ℕ) → k < 1024 → slice_index beats k ≡ slice_index ws k) → beats ≡ ws
all_filled beats ws len wide h =
    ext_get_or 0 beats ws (omega (arith, len, wide)) (λ i lt. h i (omega (arith, len)))

-- what the last state tells
pub ended : (ws : List ℕ) (xs : List ℕ) (id : ℕ) (v : View) (made : ℕ) → Final (Seen Rule id v) ws xs
    → id ≡ 0 → v ≡ making v.tallies v.looks v.next made → Gathered ws v.tallies v.looks made
ended ws xs id v made f z e = grind (arith, Gathered, gathered)

-- the maker's last view
pub whole_end : (t s : View) (made : ℕ) → t ≡ making s.tallies t.looks s.next s.made → s.made ≡ made
    → t ≡ making t.tallies t.looks t.next made
whole_end t s made e is = e ∙ (λ i. making (sym e i).tallies t.looks (sym e i).next (is i))
