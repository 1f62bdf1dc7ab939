-- Keys that are the same, and the tables of keys with the numbers of their rows.
use Rattle.std.proofs.Common.{[], ℕ, List, ◌∷◌, ◌++◌, ◌≡◌, ◌==◌, ◌<◌, ◌∙◌, Bool, true, false, Bor, inl}
use Rattle.std.proofs.Common.{inr, Option, Some, None, cond, length, map, sym, ap, refl, subst, arith, get_or}
use Rattle.std.proofs.Common.{eqb-true, true≢false}
use Rattle.std.specs.Prelude.{◌↔◌, ◌⊎◌, Contains, IsTrue, MatchOption}
use Rattle.std.specs.Bool.{Decides}
use Rattle.std.specs.Map.{lookup}
use Rattle.std.specs.Option.{IsSome, is_some}
use Rattle.std.specs.Str.{bytes_eq}
use Rattle.std.proofs.lemmas.List.{get_or-map, map_push}
use Rattle.std.proofs.lemmas.Option.{none-some, same_Some}
use Rattle.std.proofs.lemmas.List.Elements.{Contains-push_cases}
use Rattle.std.proofs.lemmas.Slice.Eq.{bytes_eq-Decides}
use Rattle.text_lines.specs.Texts.{Word}
use Rattle.line_shapes.specs.Lines.{Statement}
use Rattle.line_shapes.specs.declared.keyword.Keyword.{Keyword}
use Rattle.line_rules.specs.Entering.{Key, key_of}
use Rattle.line_rules.specs.Known.{HasNumber, HasRow, keys_of}
use Rattle.line_rules.specs.Rows.{AreTabled, Bars, Firsts, HasKeyMore, HaveWords, IsBarred, IsKeyAt, IsNewKey}
use Rattle.line_rules.specs.Rows.{IsRowAt, IsTabled, Others}
use Rattle.line_rules.specs.Rows.{TextKey, first_by, key_in, other_by, same_key}
use Rattle.line_rules.proofs.OfKeyword.{numbered_there, there_numbered}

-- ---- keys

pub same_key-Decides : (p q : Key) → Decides (same_key p q) (p ≡ q)
same_key-Decides p q = grind (arith, bytes_eq-Decides)

-- the key of the row at a place
pub key_at : (rows : List Statement) (i : ℕ) (s : Statement) → i < length rows → IsRowAt rows i s
    → IsKeyAt (keys_of rows) i s.keyword (key_of s).1
key_at rows i s inside is d =
    let key : get_or (keys_of rows) i d ≡ key_of s = get_or-map key_of rows i s d inside ∙ ap key_of (is s) in
    (ap (λ (k : Key). k.0) key, ap (λ (k : Key). k.1) key)

-- ---- entries

-- what a look-up finds where there is one entry more
module _ {K X : Type 0} (test : K → Bool) (e : K × X) where
  -- the value that was found, or else that of an entry behind the others, where the test finds it
  abbrev or_last : Bool → Option X → Option X
  or_last found (Some x) = Some x
  or_last found None = cond found (Some e.1) None

  found_more : (es : List (K × X)) → lookup test (es ++ e ∷ []) ≡ or_last (test e.0) (lookup test es)
  found_more [] = refl
  found_more (d ∷ es) =
      elim (test d.0) as (λ b. cond b (Some d.1) (lookup test (es ++ e ∷ []))
      ≡ or_last (test e.0) (cond b (Some d.1) (lookup test es))) [
        | true ↦ refl
        | false ↦ found_more es
      ]

  pub found_kept : (es : List (K × X)) (x : X) → lookup test es ≡ Some x → lookup test (es ++ e ∷ []) ≡ Some x
  found_kept es x is = found_more es ∙ ap (or_last (test e.0)) is

  pub found_last : (es : List (K × X)) → lookup test es ≡ None → test e.0 ≡ true
      → lookup test (es ++ e ∷ []) ≡ Some e.1
  found_last es none passes =
      found_more es ∙ ap (or_last (test e.0)) none ∙ ap (λ b. cond b (Some e.1) None) passes

  pub found_cases : (es : List (K × X)) (x : X) → lookup test (es ++ e ∷ []) ≡ Some x
      → (lookup test es ≡ Some x) ⊎ ((test e.0 ≡ true) × (x ≡ e.1))
  found_cases es x is = by (lookup test es) (test e.0) refl refl (sym (found_more es) ∙ is)
    where
      by : (o : Option X) (b : Bool) → lookup test es ≡ o → test e.0 ≡ b → or_last b o ≡ Some x
          → (lookup test es ≡ Some x) ⊎ ((test e.0 ≡ true) × (x ≡ e.1))
      by (Some y) b old passes is = inl (old ∙ is)
      by None true old passes is = inr (passes, sym (same_Some _ _ is))
      by None false old passes is = absurd (none-some x is)

pub some_of : {X : Type 0} (o : Option X) → IsSome o → (x : X) × (o ≡ Some x)
some_of None some = absurd (true≢false (sym some))
some_of (Some x) some = (x, refl)

pub is_some_at : {X : Type 0} (o : Option X) (x : X) → o ≡ Some x → IsSome o
is_some_at o x is = ap is_some is

pub none_of : {X : Type 0} (o : Option X) → ((x : X) → o ≡ Some x → ⊥) → o ≡ None
none_of None none = refl
none_of (Some x) none = absurd (none x refl)

pub empty_at : (word : Word) → (length word == 0) ≡ true → word ≡ []
empty_at [] is = refl
empty_at (b ∷ bs) is = absurd (omega (arith, eqb-true _ _ is))

pub not_empty : (word : Word) → (length word == 0) ≡ false → word ≡ [] → ⊥
not_empty word some empty = true≢false (sym (ap (λ (w : Word). length w == 0) empty) ∙ some)

-- ---- the first table

-- a word that was in no entry is now
pub key_put_first : (firsts new : Firsts) (others : Others) (word : Bor (List ℕ)) (k : Keyword) (n : ℕ)
    (second : Word) → new ≡ firsts ++ (word, (k, n)) ∷ [] → first_by firsts word.now ≡ None → second ≡ []
    → HasKeyMore firsts others (k, word.now, second) n new others
key_put_first firsts new others word k n second grown none empty =
    let e : Bor (List ℕ) × (Keyword × ℕ) = (word, (k, n)) in
    let all = firsts ++ e ∷ [] in
    let test : Word → Bor (List ℕ) → Bool = λ w b. bytes_eq w b.now in
    let found : first_by all word.now ≡ Some (k, n) =
    found_last (test word.now) e firsts none ((bytes_eq-Decides word.now word.now).1 refl) in
    subst (λ (l : Firsts). HasKeyMore firsts others (k, word.now, second) n l others) (sym grown) (record {
      keys = λ q m. (
        λ h. elim h [
          | inl first ↦ elim (found_cases (test q.1) e firsts (q.0, m) first.1) [
            | inl old ↦ inl (inl (first.0, old))
            | inr last ↦
                let same : q.1 ≡ word.now = (bytes_eq-Decides q.1 word.now).0 last.0 in
                let keyword : q.0 ≡ k = ap (λ (p : Keyword × ℕ). p.0) last.1 in
                let number : m ≡ n = ap (λ (p : Keyword × ℕ). p.1) last.1 in
                inr (λ i. (keyword i, same i, (first.0 ∙ sym empty) i), number)
          ]
          | inr other ↦ inl (inr other)
        ],
        λ h. elim h [
          | inl old ↦ elim old [
            | inl first ↦ inl (first.0, found_kept (test q.1) e firsts (q.0, m) first.1)
            | inr other ↦ inr other
          ]
          | inr same ↦
              let IsThere : Key × ℕ → Type 0 = λ p. IsTabled all others p.0 p.1 in
              subst IsThere (λ i. (sym same.0 i, sym same.1 i)) (inl (empty, found))
        ],
      );
      kept = λ w some.
          let had = some_of (first_by firsts w) some in
          is_some_at _ had.0 (found_kept (test w) e firsts had.0 had.1);
      word = λ _. is_some_at _ (k, n) found;
    })

-- ---- the second table

pub key_put_other : (firsts : Firsts) (others new : Others) (key : TextKey) (n : ℕ)
    → new ≡ others ++ (key, n) ∷ [] → other_by others (key_in key) ≡ None
    → (key.2.now ≡ [] → IsSome (first_by firsts key.1.now))
    → HasKeyMore firsts others (key_in key) n firsts new
key_put_other firsts others new key n grown none word =
    let e : TextKey × ℕ = (key, n) in
    let test : Key → TextKey → Bool = λ q k. same_key q (key_in k) in
    subst (λ (l : Others). HasKeyMore firsts others (key_in key) n firsts l) (sym grown) (record {
      keys = λ q m. (
        λ h. elim h [
          | inl first ↦ inl (inl first)
          | inr there ↦ elim (found_cases (test q) e others m there) [
            | inl old ↦ inl (inr old)
            | inr last ↦ inr ((same_key-Decides q (key_in key)).0 last.0, last.1)
          ]
        ],
        λ h. elim h [
          | inl old ↦ elim old [
            | inl first ↦ inl first
            | inr there ↦ inr (found_kept (test q) e others m there)
          ]
          | inr same ↦
              let passes : same_key q (key_in key) ≡ true = (same_key-Decides q (key_in key)).1 same.0 in
              let before : other_by others q ≡ None = ap (other_by others) same.0 ∙ none in
              inr (found_last (test q) e others before passes ∙ ap Some (sym same.1))
        ],
      );
      kept = λ w some. some;
      word = word;
    })

-- ---- both tables

-- what one more element is to what the elements show
pub pushed : {X Y : Type 0} (f : X → Y) (xs : List X) (x : X) (q : Y) → Contains (map f (xs ++ x ∷ [])) q
    → Contains (map f xs) q ⊎ (f x ≡ q)
pushed f xs x q h = Contains-push_cases (map f xs) (f x) q (subst (λ l. Contains l q) (map_push f xs x) h)

-- a row of the key, where its number was asked for
pub has_key : (rows : List Statement) (key : Key) (o : Option ℕ) (b : Bool)
    → MatchOption o (Contains (keys_of rows) key → ⊥) (HasNumber rows key) → b ≡ is_some o
    → IsTrue b ↔ Contains (keys_of rows) key
has_key rows key None b none is = (λ t. absurd (true≢false (sym t ∙ is)), λ h. absurd (none h))
has_key rows key (Some n) b some is = (λ t. numbered_there rows key n some, λ h. is)

module _ (rows : List Statement) (firsts : Firsts) (others : Others) (bars : Bars)
    (tabled : AreTabled rows firsts others bars) where
  -- a key that no row has is in no table
  pub key_new : (key : Key) → (Contains (keys_of rows) key → ⊥) → IsNewKey firsts others key
  key_new key absent n h = absent (numbered_there rows key n ((tabled.keys key n).1 (inl h)))

  -- a key that is in no table is that of no row
  pub key_absent : (key : Key) → IsNewKey firsts others key → ((n : ℕ) → IsBarred rows bars key n → ⊥)
      → Contains (keys_of rows) key → ⊥
  key_absent key new not_barred h =
      let own = there_numbered rows key h in
      elim ((tabled.keys key own.0).0 own.1) [
        | inl there ↦ new own.0 there
        | inr barred ↦ not_barred own.0 barred
      ]

  pub have_words : HaveWords firsts others
  have_words k word n there =
      tabled.words k word (numbered_there rows (k, word, []) n
      ((tabled.keys (k, word, []) n).1 (inl (inr there))))

  -- a word that the first table lacks
  pub found_none : (key : Key) → key.2 ≡ [] → first_by firsts key.1 ≡ None → Contains (keys_of rows) key → ⊥
  found_none key empty none h =
      let at : Contains (keys_of rows) (key.0, key.1, []) =
      subst (Contains (keys_of rows)) (λ i. (key.0, key.1, empty i)) h in
      true≢false (sym (tabled.words key.0 key.1 at) ∙ ap is_some none)

  pub found_word : (b : Bool) (word : Word) → b ≡ is_some (first_by firsts word)
      → IsTrue b ↔ ((k : Keyword) × HasRow rows k word)
  found_word b word is = (
    λ t.
        let some = some_of (first_by firsts word) (sym is ∙ t) in
        let key : Key = (some.0.0, word, []) in
        (some.0.0, numbered_there rows key some.0.1 ((tabled.keys key some.0.1).1 (inl (inl (refl, some.1))))),
    λ (k, h). is ∙ tabled.words k word h,
  )
