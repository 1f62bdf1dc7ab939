-- The documents of each split, one line more.
use Rattle.std.proofs.Common.{ℕ, List, [], ◌∷◌, ◌++◌, ◌≡◌, ◌≢◌, ◌<◌, ◌+◌, ◌∙◌, Bool, true, false, Vec, inl}
use Rattle.std.proofs.Common.{inr, ap, append-nil, arith, cond, get_or, length, map, refl, replicate, set}
use Rattle.std.proofs.Common.{sym}
use Rattle.std.specs.List.{AllPairs, Contains, enumerate_from, filter}
use Rattle.std.specs.Str.{bytes_eq}
use Rattle.std.specs.declared.alloc.Global.{Global}
use Rattle.std.proofs.lemmas.Bool.{cases_eq}
use Rattle.std.proofs.lemmas.List.{get_or-map, get_or-set_other, get_or-set_same, length-map, length-set}
use Rattle.std.proofs.lemmas.List.{map-append, map-set, same_lists}
use Rattle.std.proofs.lemmas.List.Elements.{filter-append}
use Rattle.std.proofs.lemmas.Slice.Eq.{bytes_eq-Decides}
use Rattle.text_lines.specs.Texts.{Word}
use Rattle.line_shapes.specs.Lines.{Statement}
use Rattle.word_map.specs.declared.text.Document.{Document}
use Rattle.plan_text.specs.Names.{nth_word}
use Rattle.plan_text.specs.Value.{number_in}
use Rattle.plan_text.proofs.Numbers.{name_of_number, number_within}
use Rattle.script_text.specs.Documents.{document_of, documents_of, is_in}

abbrev pub items_of : List (Vec Document Global) → List (List Document)
items_of lists = map (λ list. list.items) lists

enumerate_push : {X : Type 0} (n j : ℕ) (xs : List X) (x : X) → n + length xs ≡ j
    → enumerate_from n (xs ++ x ∷ []) ≡ enumerate_from n xs ++ (j, x) ∷ []
enumerate_push n j [] x is = let here : n ≡ j = omega (arith, is) in ap (λ i. (i, x) ∷ []) here
enumerate_push n j (y ∷ ys) x is = ap (λ l. (n, y) ∷ l) (enumerate_push (n + 1) j ys x (omega (arith, is)))

-- the line's document goes to the split that it names
documents_more : (lines : List Statement) (line : Statement) (split : Word) (b : Bool)
    → bytes_eq split (nth_word 1 line) ≡ b
    → documents_of (lines ++ line ∷ []) split
    ≡ documents_of lines split ++ cond b (document_of (length lines, line) ∷ []) []
documents_more lines line split b is =
    let last : List (ℕ × Statement) = (length lines, line) ∷ [] in
    ap (λ l. map document_of (filter (is_in split) l))
    (enumerate_push 0 (length lines) lines line (omega arith))
    ∙ ap (map document_of) (filter-append (is_in split) (enumerate_from 0 lines) last)
    ∙ map-append document_of (filter (is_in split) (enumerate_from 0 lines)) (filter (is_in split) last)
    ∙ ap (λ l. documents_of lines split ++ l) (one b is)
  where
    one : (b : Bool) → bytes_eq split (nth_word 1 line) ≡ b
        → map document_of (filter (is_in split) ((length lines, line) ∷ []))
        ≡ cond b (document_of (length lines, line) ∷ []) []
    one true is = ap (λ c. map document_of (cond c ((length lines, line) ∷ []) [])) is
    one false is = ap (λ c. map document_of (cond c ((length lines, line) ∷ []) [])) is

apart : (names : List Word) → AllPairs (λ a b. a ≢ b) names → (i j : ℕ) (d : Word) → i < length names
    → j < length names → i ≢ j → get_or names i d ≢ get_or names j d
apart names differ i j d i_in j_in other same = grind arith

pub documents_none : (names : List Word) → map (documents_of []) names ≡ replicate (length names) []
documents_none [] = refl
documents_none (name ∷ names) = ap (λ l. [] ∷ l) (documents_none names)

module _ (names : List Word) (lines : List Statement) (line : Statement) (lists : List (Vec Document Global))
    (split : ℕ) (was now : Vec Document Global) (differ : AllPairs (λ a b. a ≢ b) names)
    (known : Contains names (nth_word 1 line)) (number : split ≡ number_in names (nth_word 1 line))
    (before : items_of lists ≡ map (documents_of lines) names) (was_is : was ≡ get_or lists split was)
    (now_is : now.items ≡ was.items ++ document_of (length lines, line) ∷ []) where
  size : length lists ≡ length names
  size = sym (length-map lists (λ list. list.items)) ∙ ap length before
      ∙ length-map names (documents_of lines)

  inside : split < length names
  inside = rw number (number_within names (nth_word 1 line) known)

  named : get_or names split [] ≡ nth_word 1 line
  named = ap (λ i. get_or names i []) number ∙ name_of_number names (nth_word 1 line) [] known

  -- what the other splits have
  others : (k : ℕ) → k < length names → k ≢ split
      → documents_of (lines ++ line ∷ []) (get_or names k []) ≡ documents_of lines (get_or names k [])
  others k lt other =
      documents_more lines line (get_or names k []) false
      (by (bytes_eq (get_or names k []) (nth_word 1 line)) refl)
      ∙ append-nil (documents_of lines (get_or names k []))
    where
      by : (b : Bool) → bytes_eq (get_or names k []) (nth_word 1 line) ≡ b → b ≡ false
      by true is = absurd (apart names differ k split [] lt inside other
          ((bytes_eq-Decides (get_or names k []) (nth_word 1 line)).0 is ∙ sym named))
      by false is = refl

  -- and the split of the line
  own : now.items ≡ documents_of (lines ++ line ∷ []) (get_or names split [])
  own =
      now_is
      ∙ ap (λ l. l ++ document_of (length lines, line) ∷ [])
      (ap (λ (v : Vec Document Global). v.items) was_is
      ∙ sym (get_or-map (λ list. list.items) lists split was was.items (omega (arith, size, inside)))
      ∙ ap (λ l. get_or l split was.items) before
      ∙ get_or-map (documents_of lines) names split [] was.items inside)
      ∙ sym (documents_more lines line (get_or names split []) true ((bytes_eq-Decides _ _).1 named))

  at_each : (k : ℕ) (d : List Document) → k < length (items_of (set lists split now))
      → get_or (items_of (set lists split now)) k d ≡ get_or (map (documents_of (lines ++ line ∷ [])) names)
      k d
  at_each k d low =
      let lt : k < length names =
      omega (
        arith,
        low,
        size,
        length-map (set lists split now) (λ list. list.items),
        length-set lists split now,
      ) in
      let told = get_or-map (documents_of (lines ++ line ∷ [])) names k [] d lt in
      let write = ap (λ l. get_or l k d) (map-set (λ (list : Vec Document Global). list.items) lists split now
      ∙ ap (λ l. set l split now.items) before) in
      elim (cases_eq k split) [
        | inl same ↦
            write ∙ ap (λ i. get_or (set (map (documents_of lines) names) split now.items) i d) same
            ∙ get_or-set_same (map (documents_of lines) names) split now.items d
            (omega (arith, length-map names (documents_of lines), inside))
            ∙ own ∙ ap (λ i. documents_of (lines ++ line ∷ []) (get_or names i [])) (sym same) ∙ sym told
        | inr other ↦
            write ∙ get_or-set_other (map (documents_of lines) names) split k now.items d other
            ∙ get_or-map (documents_of lines) names k [] d lt ∙ sym (others k lt other) ∙ sym told
      ]

  pub gathered_more : items_of (set lists split now) ≡ map (documents_of (lines ++ line ∷ [])) names
  gathered_more =
      same_lists (items_of (set lists split now)) (map (documents_of (lines ++ line ∷ [])) names)
      (omega (
        arith,
        size,
        length-map (set lists split now) (λ list. list.items),
        length-set lists split now,
        length-map names (documents_of (lines ++ line ∷ [])),
      )) at_each
