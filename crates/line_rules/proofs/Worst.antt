-- The worst of some words, found by one pass over them.
use Rattle.std.proofs.Common.{ℕ, List, [], ◌∷◌, ◌≡◌, ◌≤◌, ◌<◌, Bor, Option, arith, replicate, subst, sym}
use Rattle.std.specs.Prelude.{◌↔◌}
use Rattle.std.specs.List.{All, Contains}
use Rattle.std.proofs.lemmas.List.Elements.{All-cons, Contains-append_left, Contains-append_right}
use Rattle.std.proofs.lemmas.List.Elements.{Contains-push}
use Rattle.std.proofs.lemmas.List.{get_or-replicate, length-replicate}
use Rattle.text_lines.specs.Texts.{Word}
use Rattle.line_shapes.specs.Lines.{Statement}
use Rattle.line_shapes.specs.declared.place.Place.{Place}
use Rattle.line_rules.specs.declared.edition.Version.{Version}
use Rattle.line_rules.specs.Long.{HasFirst, HaveFirst}

-- before these words of all: no word before has less than the worst, which has so much
pub record IsWorstBefore (version : Version) (rows : List Statement) (place : Option Place) (all left : List Word) (worst : Word)
    (least : ℕ) : Type 0 where
  pub some : (w : Word) → Contains left w → Contains all w
  pub one : least ≤ 3 → Contains all worst
  pub most : (n : ℕ) → n ≤ 3 → HasFirst n version rows place worst → n ≤ least
  pub others : (n : ℕ) → n ≤ 3 → n ≤ least → All (HasFirst n version rows place) left
      → All (HasFirst n version rows place) all

module _ (version : Version) (rows : List Statement) (place : Option Place) (all left : List Word) (word worst : Word)
    (least has : ℕ) (before : IsWorstBefore version rows place all (word ∷ left) worst least)
    (less : has < least → (n : ℕ) → n ≤ 3 → (HasFirst n version rows place word ↔ n ≤ has))
    (enough : least ≤ has → (n : ℕ) → n ≤ 3 → n ≤ least → HasFirst n version rows place word) where
  some_after : (w : Word) → Contains left w → Contains all w
  some_after w there = before.some w (Contains-append_right (word ∷ []) left w there)

  others_after : (n : ℕ) → n ≤ 3 → n ≤ least → HasFirst n version rows place word
      → All (HasFirst n version rows place) left → All (HasFirst n version rows place) all
  others_after n few old new rest =
      before.others n few old (All-cons (HasFirst n version rows place) word left new rest)

  pub worse_word : has < least → IsWorstBefore version rows place all left word has
  worse_word worse = record {
    some = some_after;
    one = λ _. before.some word (Contains-append_left (word ∷ []) left word (Contains-push [] word));
    most = λ n few. (less worse n few).0;
    others = λ n few le. others_after n few (omega (arith, le, worse)) ((less worse n few).1 le);
  }

  pub better_word : least ≤ has → IsWorstBefore version rows place all left worst least
  better_word better = record {
    some = some_after;
    one = before.one;
    most = before.most;
    others = λ n few le. others_after n few le (enough better n few le);
  }

-- ---- before the other words

module _ (version : Version) (rows : List Statement) (place : Option Place) (all left : List Word) (word : Word)
    (has : ℕ) (follows : all ≡ word ∷ left) (within : has ≤ 3)
    (less : has < 4 → (n : ℕ) → n ≤ 3 → (HasFirst n version rows place word ↔ n ≤ has)) where
  pub first_word : IsWorstBefore version rows place all left word has
  first_word =
      let whole = word ∷ left in
      let before : IsWorstBefore version rows place whole whole word 4 = record {
        some = λ w there. there;
        one = λ few. absurd (omega (arith, few));
        most = λ n few _. omega (arith, few);
        others = λ n few le each. each;
      } in
      subst (λ ws. IsWorstBefore version rows place ws left word has) (sym follows)
      (worse_word version rows place whole left word word 4 has before less
      (λ none. absurd (omega (arith, none, within))) (omega (arith, within)))

  pub first_marked : (first : Bor (List ℕ)) → first.now ≡ word → (m : ℕ)
      → HaveFirst version rows place has (replicate m first)
  first_marked first is m k d lt n few le =
      let long : k < m = rw length-replicate at lt in
      subst (λ (w : Bor (List ℕ)). HasFirst n version rows place w.now) (sym (get_or-replicate m k first d long))
      (subst (HasFirst n version rows place) (sym is) ((less (omega (arith, within)) n few).1 le))
