-- The places of the rows of each keyword.
use Rattle.std.proofs.Common.{ℕ, List, [], ◌∷◌, ◌++◌, ◌≡◌, ◌<◌, ◌∙◌, Bool, true, false, ap, append-nil}
use Rattle.std.proofs.Common.{arith, get_or, length, length-append, map, refl, set, subst, sym}
use Rattle.std.specs.List.{All}
use Rattle.std.specs.declared.alloc.Global.{Global}
use Rattle.std.specs.declared.vec.Vec.{Vec}
use Rattle.std.specs.Prelude.{◌≤◌, MatchOption, Option, Some, None}
use Rattle.std.proofs.lemmas.List.{get_or-map, get_or-set_other, get_or-set_same, get_or_append_left}
use Rattle.std.proofs.lemmas.List.{get_or_push, length-map, length-set, map-append}
use Rattle.std.proofs.lemmas.List.Elements.{All-append, All-cons, All-head, All-nil, All-tail, All-weaker}
use Rattle.line_shapes.specs.Lines.{Statement}
use Rattle.line_shapes.specs.contracts.keyword.Keyword.{the_type}
use Rattle.line_shapes.specs.declared.keyword.Keyword.{Keyword}
use Rattle.line_shapes.specs.declared.keyword.Keyword.TheVariants.{Problem}
use Rattle.line_rules.specs.Known.{rows_of}
use Rattle.line_rules.specs.Rows.{ArePlaced, IsRowAt, places_of}
use Rattle.line_rules.proofs.OfKeyword.{is_of-other, is_of-same, rows_pushed}
use denote.Enum.Bare.{same_true, sameb, tag_one, true_same}
use denote.Enum.Declared.{tag_of}

abbrev pub number : Keyword → ℕ
number k = tag_of the_type k

number_below : (k : Keyword) → number k < 33
number_below Problem = omega arith
number_below k = omega arith

-- the list of a keyword as the code has it
pub list_at : (rows : List Statement) (vs : List (Vec ℕ Global)) → ArePlaced rows (map (λ v. v.items) vs)
    → (k : Keyword) (d v : Vec ℕ Global) → v ≡ get_or vs (number k) d
    → v.items ≡ places_of (map (λ v. v.items) vs) k
list_at rows vs placed k d v is =
    let each : length vs ≡ 33 = sym (length-map vs (λ v. v.items)) ∙ placed.each in
    let below : number k < length vs = omega (arith, each, number_below k) in
    ap (λ (v : Vec ℕ Global). v.items) is ∙ sym (get_or-map (λ v. v.items) vs (number k) d [] below)

module _ (rows : List Statement) (lists : List (List ℕ)) (placed : ArePlaced rows lists) (k : Keyword) where
  pub count_placed : length (places_of lists k) ≡ length (rows_of k rows)
  count_placed =
      let d : Statement = record { keyword = k; words = [] } in
      sym (length-map (places_of lists k) (λ p. get_or rows p d)) ∙ ap length (placed.listed k d)

  -- the row at a place in the list of its keyword
  pub row_placed : (n p : ℕ) (s : Statement) → n < length (places_of lists k)
      → p ≡ get_or (places_of lists k) n p → IsRowAt rows p s → IsRowAt (rows_of k rows) n s
  row_placed n p s lt is there d =
      sym (ap (λ (l : List Statement). get_or l n d) (placed.listed k d))
      ∙ get_or-map (λ q. get_or rows q d) (places_of lists k) n p d lt
      ∙ ap (λ q. get_or rows q d) (sym is) ∙ there d

  -- a lookup gives the line of a row, or nothing where there is no such row
  pub row_found : {X : Type 0} (said : X → Statement) (n p : ℕ) → n < length (places_of lists k)
      → p ≡ get_or (places_of lists k) n p → (o : Option X)
      → MatchOption o (length rows ≤ p) (λ x. (p < length rows) × IsRowAt rows p (said x))
      → MatchOption o (length (rows_of k rows) ≤ n)
      (λ x. (n < length (rows_of k rows)) × IsRowAt (rows_of k rows) n (said x))
  row_found said n p lt is None past =
      let inside : p < length rows = subst (λ q. q < length rows) (sym is) (placed.inside k n p lt) in
      absurd (let past : length rows ≤ p = past in omega (arith, inside, past))
  row_found said n p lt is (Some x) there =
      (omega (arith, count_placed, lt), row_placed n p (said x) lt is there.1)

-- ---- one row more

module _ (rows : List Statement) (s : Statement) (d : Statement) where
  rows_kept : (ps : List ℕ) → All (λ p. p < length rows) ps
      → map (λ p. get_or (rows ++ s ∷ []) p d) ps ≡ map (λ p. get_or rows p d) ps
  rows_kept [] inside = refl
  rows_kept (p ∷ ps) inside =
      λ i. get_or_append_left rows (s ∷ []) d p (All-head (λ q. q < length rows) p ps inside) i
      ∷ rows_kept ps (All-tail (λ q. q < length rows) p ps inside) i

within_more : (rows : List Statement) (s : Statement) (ps : List ℕ) → All (λ p. p < length rows) ps
    → All (λ p. p < length (rows ++ s ∷ [])) ps
within_more rows s ps inside =
    All-weaker (λ p. p < length rows) (λ p. p < length (rows ++ s ∷ []))
    (λ p lt. rw length-append (let lt : p < length rows = lt in omega (arith, lt))) ps inside

pub placed_more : (rows : List Statement) (lists : List (List ℕ)) (s : Statement) → ArePlaced rows lists
    → ArePlaced (rows ++ s ∷ [])
    (set lists (number s.keyword) (places_of lists s.keyword ++ length rows ∷ []))
placed_more rows lists s placed = record {
  each = length-set lists (number s.keyword) _ ∙ placed.each;
  inside = λ k. inside k (sameb the_type k s.keyword) refl;
  listed = λ k d. listed k d (sameb the_type k s.keyword) refl;
}
  where
    all : List Statement
    all = rows ++ s ∷ []

    more : List ℕ
    more = places_of lists s.keyword ++ length rows ∷ []

    new : List (List ℕ)
    new = set lists (number s.keyword) more

    own : (k : Keyword) → k ≡ s.keyword → places_of new k ≡ places_of lists k ++ length rows ∷ []
    own k same =
        let below : number s.keyword < length lists = rw placed.each (number_below s.keyword) in
        ap (places_of new) same
        ∙ get_or-set_same lists (number s.keyword) more [] below
        ∙ ap (λ j. places_of lists j ++ length rows ∷ []) (sym same)

    other : (k : Keyword) → (k ≡ s.keyword → ⊥) → places_of new k ≡ places_of lists k
    other k apart =
        get_or-set_other lists (number s.keyword) (number k) more []
        (λ e. apart (tag_one the_type tt k s.keyword e))

    inside : (k : Keyword) (b : Bool) → sameb the_type k s.keyword ≡ b
        → All (λ p. p < length all) (places_of new k)
    inside k true is =
        let before = within_more rows s (places_of lists k) (placed.inside k) in
        subst (All (λ p. p < length all)) (sym (own k (same_true the_type tt k s.keyword is)))
        (All-append (λ p. p < length all) (places_of lists k) (length rows ∷ []) before
        (All-cons (λ p. p < length all) (length rows) [] (rw length-append (omega arith))
        (All-nil (λ p. p < length all))))
    inside k false is =
        subst (All (λ p. p < length all)) (sym (other k (λ e. cc (true_same the_type k s.keyword e))))
        (within_more rows s (places_of lists k) (placed.inside k))

    listed : (k : Keyword) (d : Statement) (b : Bool) → sameb the_type k s.keyword ≡ b
        → map (λ p. get_or all p d) (places_of new k) ≡ rows_of k all
    listed k d true is =
        let same = same_true the_type tt k s.keyword is in
        ap (map (λ p. get_or all p d)) (own k same)
        ∙ map-append (λ p. get_or all p d) (places_of lists k) (length rows ∷ [])
        ∙ (λ i. rows_kept rows s d (places_of lists k) (placed.inside k) i
        ++ get_or_push rows s d (length rows) refl i ∷ [])
        ∙ ap (λ l. l ++ s ∷ []) (placed.listed k d)
        ∙ sym (rows_pushed k rows s true (is_of-same k s (sym same)))
    listed k d false is =
        let apart : k ≡ s.keyword → ⊥ = λ e. cc (true_same the_type k s.keyword e) in
        ap (map (λ p. get_or all p d)) (other k apart)
        ∙ rows_kept rows s d (places_of lists k) (placed.inside k)
        ∙ placed.listed k d
        ∙ sym (append-nil (rows_of k rows))
        ∙ sym (rows_pushed k rows s false (is_of-other k s (λ e. apart (sym e))))
