-- The numbers of the workers that hold splits.
use Rattle.std.proofs.Common.{ℕ, List, [], ◌∷◌, ◌++◌, ◌≡◌, ◌≢◌, ◌≤◌, ◌<◌, ◌∙◌, Bor, ap, arith, zero}
use Rattle.std.proofs.Common.{cond, drop, get_or, length, length-drop, map, refl, subst, suc, sym, take}
use Rattle.std.proofs.Common.{◌+◌, ◌-◌, min, None, Option, Some, take_all}
use Rattle.std.specs.Prelude.{Contains, MatchOption}
use Rattle.std.specs.List.{All, AllPairs, flat_map}
use Rattle.std.proofs.lemmas.Grind.{flat_map-append}
use Rattle.std.proofs.lemmas.List.{get_or-map, get_or_default, length-map, map-append, take_more}
use Rattle.std.proofs.lemmas.List.Elements.{All-append, All-cons, All-nil, All-weaker, filter-append}
use Rattle.text_lines.specs.Texts.{Word}
use Rattle.line_shapes.specs.Demands.{Meet}
use Rattle.line_shapes.specs.Lines.{IsShaped, Statement, stated, tail_words}
use Rattle.line_shapes.specs.Places.{place_at}
use Rattle.line_shapes.specs.declared.place.Place.{Place}
use Rattle.line_shapes.specs.declared.demand.Demand.TheVariants.{Shape}
use Rattle.line_shapes.specs.declared.keyword.Keyword.{Keyword}
use Rattle.line_shapes.specs.declared.keyword.Keyword.TheVariants.{Split, Worker}
use Rattle.line_rules.specs.Entered.{AreFit, IsFitIn}
use Rattle.line_rules.specs.Entering.{entered_by, entered_of, entering_of}
use Rattle.line_rules.specs.Faults.{Keep}
use Rattle.line_rules.specs.Holders.{AreHolders, AreHoldersOf, AreNumbersOf, IsHeld, IsWorker, holders_in}
use Rattle.line_rules.specs.Known.{HasNumber, is_of, keys_of, rows_of}
use Rattle.line_rules.specs.Rows.{AreTabled, Bars, Firsts, Others, name_in}
use Rattle.line_rules.specs.declared.edition.Version.{Version}
use Rattle.line_rules.specs.declared.entering.Entering.{Entering}
use Rattle.line_rules.specs.declared.entering.Entering.TheVariants.{Nothing, InTurn}
use Rattle.line_rules.specs.declared.rule.Rule.TheVariants.{Declared}
use Rattle.line_rules.proofs.Barred.{count_kept, has_name, name_kept, name_of, one_number}
use Rattle.line_rules.proofs.OfKeyword.{is_of-other, numbered_there}

-- ---- one line more

names_kept : (rows more : List Statement) (ns : List ℕ) → All (λ n. n < length (rows_of Worker rows)) ns
    → map (name_in Worker (rows ++ more)) ns ≡ map (name_in Worker rows) ns
names_kept rows more [] within = refl
names_kept rows more (n ∷ ns) within = λ i.
    name_kept rows more Worker n (within 0 0 (omega arith)) i
    ∷ names_kept rows more ns (λ k d lt. within (suc k) d (omega arith)) i

kept : (rows more : List Statement) (names : List Word) (ns : List ℕ) → AreNumbersOf rows names ns
    → AreNumbersOf (rows ++ more) names ns
kept rows more names ns h = record {
  within = All-weaker (λ n. n < length (rows_of Worker rows)) (λ n. n < length (rows_of Worker (rows ++ more)))
      (count_kept rows more Worker) ns h.within;
  named = names_kept rows more ns h.within ∙ h.named;
}

both : (rows : List Statement) (names others : List Word) (ns ms : List ℕ) → AreNumbersOf rows names ns
    → AreNumbersOf rows others ms → AreNumbersOf rows (names ++ others) (ns ++ ms)
both rows names others ns ms a b = record {
  within = All-append (λ n. n < length (rows_of Worker rows)) ns ms a.within b.within;
  named = map-append (name_in Worker rows) ns ms ∙ (λ i. a.named i ++ b.named i);
}

holders_more : (rows more : List Statement) → holders_in (rows ++ more) ≡ holders_in rows ++ holders_in more
holders_more rows more =
    ap (flat_map tail_words) (filter-append (is_of Split) rows more)
    ∙ flat_map-append tail_words (rows_of Split rows) (rows_of Split more)

-- a line that is not entered has no holders
holders_entered : (s : Statement) → holders_in (entered_of s) ≡ holders_in (s ∷ [])
holders_entered s = by (entering_of s.keyword) refl
  where
    none : (s.keyword ≡ Split → ⊥) → [] ≡ holders_in (s ∷ [])
    none other = ap (λ b. flat_map tail_words (cond b (s ∷ []) [])) (sym (is_of-other Split s other))

    by : (e : Entering) → entering_of s.keyword ≡ e → holders_in (entered_by e s) ≡ holders_in (s ∷ [])
    by Nothing is = none (λ same. let e = sym (ap entering_of same) ∙ is in cc)
    by InTurn is = none (λ same. let e = sym (ap entering_of same) ∙ is in cc)
    by e is = refl

-- a line is entered, with the numbers of its holders
pub holders_of_entered : (rows : List Statement) (s : Statement) (ns ms : List ℕ) → AreHolders rows ns
    → AreHoldersOf rows s ms → AreHolders (rows ++ entered_of s) (ns ++ ms)
holders_of_entered rows s ns ms old new =
    let names = holders_more rows (entered_of s) ∙ ap (λ ws. holders_in rows ++ ws) (holders_entered s) in
    subst (λ ws. AreNumbersOf (rows ++ entered_of s) ws (ns ++ ms)) (sym names)
    (kept rows (entered_of s) _ _ (both rows _ _ ns ms old new))

-- ---- the words of a split's line

abbrev split_line : List Word → Statement
split_line ws = record { keyword = Split; words = ws }

as_split : (s : Statement) → s.keyword ≡ Split → s ≡ split_line s.words
as_split s same = λ i. record { keyword = same i; words = s.words }

held_words : (rows : List Statement) (ws : List Word) → Meet Shape Split ws
    → Keep Declared rows (split_line ws) → All (IsWorker rows) (drop 2 ws)
held_words rows [] shape keep k d lt = absurd (omega arith)
held_words rows (a ∷ []) shape keep k d lt = absurd (omega arith)
held_words rows (a ∷ b ∷ ws) shape keep k d lt =
    subst (IsWorker rows) (get_or_default ws k [] d lt)
    (shape (suc (suc k)) (omega arith), keep (suc (suc k)) (omega arith))

-- the holders of a split without a fault are workers
pub fit_held : (rows : List Statement) (s : Statement) → IsShaped s → Keep Declared rows s → IsHeld rows s
fit_held rows s shaped keep same =
    let is = as_split s same in
    subst (λ (t : Statement). All (IsWorker rows) (tail_words t)) (sym is)
    (held_words rows s.words (subst (λ (t : Statement). Meet Shape t.keyword t.words) is shaped.shape)
    (subst (Keep Declared rows) is keep))

-- ---- words that are looked up in turn

abbrev said : List (Bor (List ℕ)) → List Word
said names = map (λ n. n.now) names

-- with one name more
said_more : (names : List (Bor (List ℕ))) (i : ℕ) (d : Bor (List ℕ)) → i < length names
    → said (take (i + 1) names) ≡ said (take i names) ++ (get_or names i d).now ∷ []
said_more names i d lt =
    ap said (take_more names i d lt) ∙ map-append (λ n. n.now) (take i names) (get_or names i d ∷ [])

pub numbers_more : (rows : List Statement) (names : List (Bor (List ℕ))) (i n : ℕ) (d : Bor (List ℕ))
    (ns : List ℕ) → i < length names → AreNumbersOf rows (said (take i names)) ns
    → HasNumber rows (Worker, (get_or names i d).now, []) n
    → AreNumbersOf rows (said (take (i + 1) names)) (ns ++ n ∷ [])
numbers_more rows names i n d ns lt before has =
    let name : Word = (get_or names i d).now in
    subst (λ ws. AreNumbersOf rows ws (ns ++ n ∷ [])) (sym (said_more names i d lt))
    (both rows _ (name ∷ []) ns (n ∷ []) before (record {
      within = All-cons (λ m. m < length (rows_of Worker rows)) n [] has.inside
          (All-nil (λ m. m < length (rows_of Worker rows)));
      named = ap (λ (w : Word). w ∷ []) (name_of Worker refl rows name n has);
    }))

pub workers_more : (rows : List Statement) (names : List (Bor (List ℕ))) (i : ℕ) (d : Bor (List ℕ))
    → i < length names → All (IsWorker rows) (said (take i names)) → IsWorker rows (get_or names i d).now
    → All (IsWorker rows) (said (take (i + 1) names))
workers_more rows names i d lt before is =
    subst (All (IsWorker rows)) (sym (said_more names i d lt))
    (All-append (IsWorker rows) _ _ before (All-cons (IsWorker rows) _ [] is (All-nil (IsWorker rows))))

pub one_worker : (rows : List Statement) (names : List (Bor (List ℕ))) (i : ℕ) (d : Bor (List ℕ))
    → i < length names → All (IsWorker rows) (said names) → IsWorker rows (get_or names i d).now
one_worker rows names i d lt all =
    subst (IsWorker rows) (get_or-map (λ n. n.now) names i d d.now lt) (all i d.now (rw length-map lt))

pub worker_numbered : (rows : List Statement) (w : Word) (o : Option ℕ) → 0 < length w
    → MatchOption o (Contains (keys_of rows) (Worker, w, []) → ⊥) (HasNumber rows (Worker, w, []))
    → MatchOption o (IsWorker rows w → ⊥) (λ n. IsWorker rows w × HasNumber rows (Worker, w, []) n)
worker_numbered rows w None some none = λ is. none is.1
worker_numbered rows w (Some n) some has = ((some, numbered_there rows (Worker, w, []) n has), has)

-- the words behind the first two, as a slice has them
pub behind_two : (k : Keyword) (ws : List (Bor (List ℕ))) (m : ℕ) → k ≡ Split → m ≡ min (length ws) 2
    → said (take (length ws - m) (drop m ws)) ≡ tail_words (stated k ws)
behind_two k ws m same is =
    ap said (take_all (length ws - m) (drop m ws) (rw length-drop (omega arith)))
    ∙ ap (λ n. said (drop n ws)) is ∙ by ws
    ∙ ap (λ j. tail_words (stated j ws)) (sym same)
  where
    by : (us : List (Bor (List ℕ))) → said (drop (min (length us) 2) us) ≡ tail_words (stated Split us)
    by [] = refl
    by (a ∷ []) = refl
    by (a ∷ b ∷ us) =
        let two : min (length (a ∷ b ∷ us)) 2 ≡ 2 = omega arith in
        ap (λ n. said (drop n (a ∷ b ∷ us))) two

-- the words of a split's line are fit where the first two are and its holders are workers
pub split_fit : (version : Version) (rows : List Statement) (ws : List (Bor (List ℕ))) (v w : Bor (List ℕ))
    (p q : Option Place) → 2 ≤ length ws → p ≡ place_at Split 0 → q ≡ place_at Split 1
    → IsFitIn version rows p (get_or ws 0 v).now → IsFitIn version rows q (get_or ws 1 w).now
    → IsHeld rows (stated Split ws) → AreFit version rows (stated Split ws)
split_fit version rows [] v w p q long first second name bytes held i lt = absurd (omega (arith, long))
split_fit version rows (a ∷ []) v w p q long first second name bytes held i lt = absurd (omega (arith, long))
split_fit version rows (a ∷ b ∷ ws) v w p q long first second name bytes held zero lt =
    subst (λ place. IsFitIn version rows place a.now) first name
split_fit version rows (a ∷ b ∷ ws) v w p q long first second name bytes held (suc zero) lt =
    subst (λ place. IsFitIn version rows place b.now) second bytes
split_fit version rows (a ∷ b ∷ ws) v w p q long first second name bytes held (suc (suc k)) lt =
    held refl k [] (omega (arith, lt))

-- workers of different numbers have different names
pub names_apart : (rows : List Statement) (firsts : Firsts) (others : Others) (bars : Bars)
    → AreTabled rows firsts others bars → (ns : List ℕ) → AllPairs (λ a b. a ≢ b) ns → (names : List Word)
    → AreNumbersOf rows names ns → AllPairs (λ a b. a ≢ b) names
names_apart rows firsts others bars tabled ns apart names h =
    subst (AllPairs (λ a b. a ≢ b)) h.named (λ i j d lt inside same.
    let long = length-map ns (name_in Worker rows) in
    let low : i < length ns = omega (arith, lt, inside, long) in
    let high : j < length ns = omega (arith, inside, long) in
    let one = has_name Worker refl rows (get_or ns i 0) (h.within i 0 low) in
    let other = has_name Worker refl rows (get_or ns j 0) (h.within j 0 high) in
    let is : name_in Worker rows (get_or ns i 0) ≡ name_in Worker rows (get_or ns j 0) =
    sym (get_or-map (name_in Worker rows) ns i 0 d low) ∙ same ∙ get_or-map (name_in Worker rows) ns j 0 d high in
    apart i j 0 lt high (one_number rows firsts others bars tabled (Worker, name_in Worker rows (get_or ns j 0), [])
    (get_or ns i 0) (get_or ns j 0) (λ e. cc)
    (subst (λ (w : Word). HasNumber rows (Worker, w, []) (get_or ns i 0)) is one) other))
