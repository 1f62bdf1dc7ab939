-- Pieces of a text that go to a writer one after another.
use Rattle.std.proofs.Common.{ℕ, ◌+◌, ◌<◌, List, Option, ◌≡◌, ◌++◌, [], ◌∙◌, ap, sym, refl, length, take, drop}
use Rattle.std.proofs.Common.{Result, Ok, Err}
use Rattle.std.proofs.Common.{append_assoc, subst, append-nil, get_or, take-append-drop}
use Rattle.std.specs.Prelude.{OnErr}
use Rattle.std.specs.List.{flat_map}
use Rattle.std.proofs.lemmas.Grind.{flat_map-append}
use Rattle.std.proofs.lemmas.List.{flat_map_more, take_more}
use Rattle.std.specs.Io.KnownBytes.{Appends}
use Rattle.std.proofs.KnownBytes.{Appends-trans, Appends-nil}
use Rattle.text_lines.specs.Streams.{AppendsFront, Moves}

module _ (a b : Option (List ℕ)) (x y : List ℕ) where
  -- a front of a text is one of a longer text
  pub front_of_more : AppendsFront a b x → AppendsFront a b (x ++ y)
  front_of_more f = record {
    front = f.front;
    rest = f.rest ++ y;
    whole = ap (λ (t : List ℕ). t ++ y) f.whole ∙ append_assoc f.front f.rest y;
    appended = f.appended;
  }

module _ (a b c : Option (List ℕ)) (x y : List ℕ) where
  -- one text, and then a front of another
  pub front_after : Appends a b x → AppendsFront b c y → AppendsFront a c (x ++ y)
  front_after first f = record {
    front = x ++ f.front;
    rest = f.rest;
    whole = ap (λ (t : List ℕ). x ++ t) f.whole ∙ sym (append_assoc x f.front f.rest);
    appended = Appends-trans a b c x f.front first f.appended;
  }

module _ (a b c : Option (List ℕ)) (x p y : List ℕ) (moved : Moves a b x p) where
  same : moved.bytes ++ (p ++ y) ≡ x ++ y
  same = sym (append_assoc moved.bytes p y) ∙ ap (λ (t : List ℕ). t ++ y) (sym moved.whole)

  -- what waits is written in part, with what comes next
  pub front_moved : AppendsFront b c (p ++ y) → AppendsFront a c (x ++ y)
  front_moved f = subst (AppendsFront a c) same (front_after a b c moved.bytes (p ++ y) moved.appended f)

  -- what comes next waits behind it, or went to the writer with it
  pub moved_more : (q : List ℕ) → Moves b c (p ++ y) q → Moves a c (x ++ y) q
  moved_more q next = record {
    bytes = moved.bytes ++ next.bytes;
    whole = sym same ∙ ap (λ (t : List ℕ). moved.bytes ++ t) next.whole
        ∙ sym (append_assoc moved.bytes next.bytes q);
    appended = Appends-trans a b c moved.bytes next.bytes moved.appended next.appended;
  }

module _ (a b c : Option (List ℕ)) (x p : List ℕ) (moved : Moves a b x p) where
  -- all that waits is written
  pub all_moved : Appends b c p → Appends a c x
  all_moved last = subst (Appends a c) (sym moved.whole)
      (Appends-trans a b c moved.bytes p moved.appended last)

  -- a front of what waits is written
  pub front_of_all : AppendsFront b c p → AppendsFront a c x
  front_of_all f =
      subst (AppendsFront a c) (sym moved.whole) (front_after a b c moved.bytes p moved.appended f)

-- ---- a text of two parts behind what waited first

module _ (bs x y : List ℕ) where
  whole : (bs ++ x) ++ y ≡ bs ++ (x ++ y)
  whole = append_assoc bs x y

  pub front_of_both : (a b : Option (List ℕ)) → AppendsFront a b (bs ++ x) → AppendsFront a b (bs ++ (x ++ y))
  front_of_both a b front = subst (AppendsFront a b) whole (front_of_more a b (bs ++ x) y front)

  pub front_moved_both : (a b c : Option (List ℕ)) (p : List ℕ) → Moves a b (bs ++ x) p
      → AppendsFront b c (p ++ y) → AppendsFront a c (bs ++ (x ++ y))
  front_moved_both a b c p moved front =
      subst (AppendsFront a c) whole (front_moved a b c (bs ++ x) p y moved front)

  pub moved_both : (a b c : Option (List ℕ)) (p q : List ℕ) → Moves a b (bs ++ x) p → Moves b c (p ++ y) q
      → Moves a c (bs ++ (x ++ y)) q
  moved_both a b c p q moved next =
      subst (λ (t : List ℕ). Moves a c t q) whole (moved_more a b c (bs ++ x) p y moved q next)

-- nothing was written
pub nothing_moved : (a : Option (List ℕ)) (x : List ℕ) → Moves a a x x
nothing_moved a x = record { bytes = []; whole = refl; appended = Appends-nil a }

-- two texts were written
pub both_moved : (a b c : Option (List ℕ)) (x y : List ℕ) → Appends a b x → Appends b c y
    → Moves a c (x ++ y) []
both_moved a b c x y first next = record {
  bytes = x ++ y;
  whole = sym (append-nil (x ++ y));
  appended = Appends-trans a b c x y first next;
}

-- ---- the texts of a list, one after another

module _ {X : Type 0} (f : X → List ℕ) (bs : List ℕ) (xs : List X) (n : ℕ) where
  pub next_text : (x : X) (y : List ℕ) → n < length xs → y ≡ f (get_or xs n x)
      → (bs ++ flat_map f (take n xs)) ++ y ≡ bs ++ flat_map f (take (n + 1) xs)
  next_text x y below is =
      ap (λ (t : List ℕ). (bs ++ flat_map f (take n xs)) ++ t) is
      ∙ flat_map_more f bs (take n xs) (get_or xs n x)
      ∙ ap (λ (ys : List X). bs ++ flat_map f ys) (sym (take_more xs n x below))

  -- a front of the first of them is one of all
  pub front_of_first : (a b : Option (List ℕ)) → AppendsFront a b (bs ++ flat_map f (take n xs))
      → AppendsFront a b (bs ++ flat_map f xs)
  front_of_first a b front =
      let first = flat_map f (take n xs) in
      let last = flat_map f (drop n xs) in
      let all : first ++ last ≡ flat_map f xs =
      sym (flat_map-append f (take n xs) (drop n xs)) ∙ ap (flat_map f) (take-append-drop n xs) in
      subst (AppendsFront a b) (append_assoc bs first last ∙ ap (λ (t : List ℕ). bs ++ t) all)
      (front_of_more a b (bs ++ first) last front)

-- what holds anyway holds of an error
pub on_err_of : {T E P : Type 0} (r : Result T E) → P → OnErr r P
on_err_of (Ok x) p = tt
on_err_of (Err e) p = p
