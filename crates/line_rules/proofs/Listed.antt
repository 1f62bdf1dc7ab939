-- Lines whose words stand in one list.
use Rattle.std.proofs.Common.{ℕ, List, [], ◌∷◌, ◌++◌, ◌≡◌, ◌≤◌, ◌+◌, ◌-◌, ◌∙◌, Bor, ap, ap₂, arith, drop}
use Rattle.std.proofs.Common.{length, length-append, length-drop, map, refl, sym, take, take_all, subst}
use Rattle.std.proofs.Math.Seq.{drop-append_seam}
use Rattle.std.proofs.lemmas.List.{drop-append-le, map-append, take-append-le}
use Rattle.std.proofs.lemmas.List.Elements.{All-head, All-tail, All-weaker}
use Rattle.line_shapes.specs.Lines.{Statement}
use Rattle.line_shapes.specs.declared.keyword.Keyword.{Keyword}
use Rattle.line_rules.specs.Rows.{AreWithin, IsWithin, Kept, kept_at, statement_at, words_at}
use Rattle.line_rules.specs.Rows.Kept.{Bar, Line}
use Rattle.line_rules.specs.declared.line_list.LinePlace.{LinePlace}
use Rattle.line_rules.specs.declared.line_list.LinePlace.TheVariants as place
use Rattle.line_rules.specs.declared.line_list.WordsPlace.{WordsPlace}

abbrev Words : Type 0
Words = List (Bor (List ℕ))

module _ (words more : Words) where
  words_kept : (p : WordsPlace) → p.start ≤ p.end → p.end ≤ length words
      → words_at (words ++ more) p ≡ words_at words p
  words_kept p le inside =
      ap (take (p.end - p.start)) (drop-append-le p.start words more (omega (arith, le, inside)))
      ∙ take-append-le (p.end - p.start) (drop p.start words) more
      (rw (length-drop p.start words) (omega (arith, le, inside)))

  line_kept : (p : LinePlace) → IsWithin words p → kept_at (words ++ more) p ≡ kept_at words p
  line_kept (place.Words p) within =
      ap (λ ws. Line (record { keyword = p.keyword; words = map (λ w. w.now) ws }))
      (words_kept p within.0 within.1)
  line_kept (place.Bar split worker) within = refl

  -- words behind those of the lines leave the lines
  pub lines_kept : (ps : List LinePlace) → AreWithin words ps
      → map (kept_at (words ++ more)) ps ≡ map (kept_at words) ps
  lines_kept [] within = refl
  lines_kept (p ∷ ps) within =
      ap₂ (λ (k : Kept) (ks : List Kept). k ∷ ks)
      (line_kept p (All-head (IsWithin words) p ps within))
      (lines_kept ps (All-tail (IsWithin words) p ps within))

  place_kept : (p : LinePlace) → IsWithin words p → IsWithin (words ++ more) p
  place_kept (place.Words p) within =
      (within.0, rw length-append (let inside : p.end ≤ length words = within.1 in omega (arith, inside)))
  place_kept (place.Bar split worker) within = tt

  pub within_more : (ps : List LinePlace) → AreWithin words ps → AreWithin (words ++ more) ps
  within_more ps within = All-weaker (IsWithin words) (IsWithin (words ++ more)) place_kept ps within

-- the same of any list that is as long or longer by those words
pub kept_by : (words more new : Words) (ps : List LinePlace) → new ≡ words ++ more → AreWithin words ps
    → AreWithin new ps × (map (kept_at new) ps ≡ map (kept_at words) ps)
kept_by words more new ps is within = (
  subst (λ ws. AreWithin ws ps) (sym is) (within_more words more ps within),
  ap (λ ws. map (kept_at ws) ps) is ∙ lines_kept words more ps within,
)

-- a line whose words stand last
last_line : (words ws : Words) (k : Keyword) (start end : ℕ) → start ≡ length words
    → end ≡ length words + length ws
    → statement_at (words ++ ws) (record { keyword = k; start = start; end = end })
    ≡ record { keyword = k; words = map (λ w. w.now) ws }
last_line words ws k start end starts ends = grind (arith, drop-append_seam, take_all)

module _ (words ws new : Words) (ps more : List LinePlace) (p : WordsPlace) (grown : new ≡ words ++ ws)
    (put : more ≡ ps ++ place.Words p ∷ []) (starts : p.start ≡ length words)
    (ends : p.end ≡ length words + length ws) (within : AreWithin words ps) where
  pub lines_put : map (kept_at new) more
      ≡ map (kept_at words) ps ++ Line (record { keyword = p.keyword; words = map (λ w. w.now) ws }) ∷ []
  lines_put =
      ap₂ (λ l qs. map (kept_at l) qs) grown put
      ∙ map-append (kept_at (words ++ ws)) ps (place.Words p ∷ [])
      ∙ ap₂ (λ (ks : List Kept) (s : Statement). ks ++ Line s ∷ []) (lines_kept words ws ps within)
      (last_line words ws p.keyword p.start p.end starts ends)
