-- Lines with more names than they may have: the worst of the names left stands for all names left.
use Rattle.std.proofs.Common.{ℕ, List, [], ◌∷◌, ◌++◌, ◌≡◌, ◌≢◌, ◌≤◌, ◌<◌, ◌+◌, ◌∙◌, Option, Some, None}
use Rattle.std.proofs.Common.{ap, arith, drop, get_or, inl, inr, length, length-append, length-drop}
use Rattle.std.proofs.Common.{subst, sym}
use Rattle.std.specs.List.{AllPairs, Contains}
use Rattle.std.proofs.lemmas.Bool.{cases_lt}
use Rattle.std.proofs.lemmas.List.{drop-append-le, get_or_append_left, get_or-append-add, get_or_default}
use Rattle.std.proofs.lemmas.List.Elements.{All-weaker}
use Rattle.text_lines.specs.Texts.{Word, number_of}
use Rattle.text_lines.specs.Faults.{number_of_fault}
use Rattle.text_lines.specs.declared.fault.Fault.{Fault}
use Rattle.text_lines.specs.declared.fault.Fault.TheVariants.{Shape, Misnamed, Unknown, Repeated, OutOfRange}
use Rattle.text_lines.specs.declared.fault.Fault.TheVariants.{PassesLimit, Misplaced, RepeatedHolder}
use Rattle.text_lines.specs.declared.fault.Fault.TheVariants.{SecondEntry, NoPrice}
use Rattle.line_shapes.specs.Demands.{HasShape, IsWithinIn, MeetsDemand}
use Rattle.line_shapes.specs.Lines.{Differ, HasTailApart, IsShaped, Statement, tail_words}
use Rattle.line_shapes.specs.Places.{more_of, places_of}
use Rattle.line_shapes.specs.declared.keyword.Keyword.{Keyword}
use Rattle.line_shapes.specs.declared.keyword.Keyword.TheVariants.{Places, Split, Worker}
use Rattle.line_shapes.specs.declared.place.Kind.{Kind}
use Rattle.line_shapes.specs.declared.place.Place.{Place}
use Rattle.line_shapes.specs.declared.place.Place.TheVariants.{New, Used}
use Rattle.line_rules.specs.Entering.{key_of, most_more_of}
use Rattle.line_rules.specs.Faults.{AreInRange, AreRising, IsComplete, IsDeclaredIn, IsFew, IsFirstOfBody}
use Rattle.line_rules.specs.Faults.{IsFirstOfHead, IsFreeIn, IsLeastOf, IsNew, IsOfSize, IsWithinLimit, Keep}
use Rattle.line_rules.specs.Faults.{MayStand, Meets, most_bytes, most_slots}
use Rattle.line_rules.specs.Known.{Known}
use Rattle.line_rules.specs.Names.{IsNamed, name_demand}
use Rattle.line_rules.specs.Long.{HasFirst, IsWorst, StandsFor, WordsHave, said}
use Rattle.line_rules.specs.Sections.{section_after}
use Rattle.line_rules.specs.declared.edition.Version.{Version}
use Rattle.line_rules.specs.declared.rule.Rule.TheVariants as rule
use Rattle.line_rules.specs.declared.section.Section.{Section}
use Rattle.line_rules.specs.declared.section.Section.TheVariants.{Head, Body}
use Rattle.line_rules.proofs.EachPlace.{each_last, each_less, each_more}

-- ---- lists with one word for all that are left

tail_parts : (word : Keyword) (ws xs : List Word) → length (places_of word) ≤ length ws
    → tail_words (said word (ws ++ xs)) ≡ drop (length (places_of word)) ws ++ xs
tail_parts word ws xs past = drop-append-le (length (places_of word)) ws xs past

pairs_less : (R : Word → Word → Type 0) (xs vs : List Word) (v : Word) → Contains vs v
    → AllPairs R (xs ++ vs) → AllPairs R (xs ++ v ∷ [])
pairs_less R xs vs v (m, lt, is) pairs i j d before inside =
    let few : j < length xs + 1 = omega (arith, length-append xs (v ∷ []), inside) in
    let near : i < length xs = omega (arith, before, few) in
    let first : get_or (xs ++ v ∷ []) i d ≡ get_or (xs ++ vs) i d =
    get_or_append_left xs (v ∷ []) d i near ∙ sym (get_or_append_left xs vs d i near) in
    subst (λ a. R a (get_or (xs ++ v ∷ []) j d)) (sym first) (elim (cases_lt j (length xs)) [
      | inl early ↦
          let second : get_or (xs ++ v ∷ []) j d ≡ get_or (xs ++ vs) j d =
          get_or_append_left xs (v ∷ []) d j early ∙ sym (get_or_append_left xs vs d j early) in
          subst (R (get_or (xs ++ vs) i d)) (sym second)
          (pairs i j d before (omega (arith, length-append xs vs, early)))
      | inr late ↦
          let last : j ≡ length xs + 0 = omega (arith, late, few) in
          let second : get_or (xs ++ v ∷ []) j d ≡ get_or (xs ++ vs) (length xs + m) d =
          ap (λ n. get_or (xs ++ v ∷ []) n d) last ∙ get_or-append-add xs (v ∷ []) 0 d
          ∙ sym is ∙ get_or_default vs m v d lt ∙ sym (get_or-append-add xs vs m d) in
          subst (R (get_or (xs ++ vs) i d)) (sym second)
          (pairs i (length xs + m) d (omega (arith, near)) (omega (arith, length-append xs vs, lt)))
    ])

differ_less : (place : Option Place) (xs vs : List Word) (v : Word) → Contains vs v → Differ place (xs ++ vs)
    → Differ place (xs ++ v ∷ [])
differ_less (Some New) xs vs v one h = pairs_less (λ a b. a ≢ b) xs vs v one h
differ_less (Some (Used kind)) xs vs v one h = pairs_less (λ a b. a ≢ b) xs vs v one h
differ_less place xs vs v one h = tt

-- ---- what no word past the places decides

few_less : (o : Option ℕ) (m n : ℕ) → m ≤ n → IsFew o n → IsFew o m
few_less None m n le few = tt
few_less (Some most) m n le few = omega (arith, le, few)

small_same : (i most : ℕ) (ws xs vs : List Word) → i < length ws
    → number_of (get_or (ws ++ xs) i []) ≤ most → number_of (get_or (ws ++ vs) i []) ≤ most
small_same i most ws xs vs inside small =
    subst (λ (w : Word). number_of w ≤ most)
    (get_or_append_left ws xs [] i inside ∙ sym (get_or_append_left ws vs [] i inside)) small

size_same : (version : Version) (word : Keyword) (ws xs vs : List Word)
    → length (places_of word) ≤ length ws → IsOfSize version word (ws ++ xs)
    → IsOfSize version word (ws ++ vs)
size_same version Split ws xs vs past small =
    small_same 1 (most_bytes version) ws xs vs (omega (arith, past)) small
size_same version Worker ws xs vs past small =
    small_same 2 (most_slots version) ws xs vs (omega (arith, past)) small
size_same version word ws xs vs past small = tt

-- prices of places do not follow where names may
names_rise : (word : Keyword) (kind : Kind) (ws : List Word) → more_of word ≡ Some (Used kind)
    → AreRising word ws
names_rise Places kind ws used = cc
names_rise word kind ws used = tt

head_same : (section : Section) (rows : List Statement) (s t : Statement) → key_of s ≡ key_of t
    → IsFirstOfHead section rows s → IsFirstOfHead section rows t
head_same Head rows s t same h = λ there. h (subst (Contains _) (sym same) there)
head_same section rows s t same h = tt

body_same : (section : Section) (rows : List Statement) (s t : Statement) → key_of s ≡ key_of t
    → IsFirstOfBody section rows s → IsFirstOfBody section rows t
body_same Body rows s t same h = λ there. h (subst (Contains _) (sym same) there)
body_same section rows s t same h = tt

not_above : (m n : ℕ) → (n < m → ⊥) → m ≤ n
not_above m n not = elim (cases_lt n m) [ inl above ↦ absurd (not above) | inr below ↦ below ]

-- ---- the faults of the short line and of the long one

module _ (k : Known) (word : Keyword) (ws vs : List Word) (v : Word)
    (past : length (places_of word) ≤ length ws) (one : Contains vs v)
    (worst : IsWorst k.version k.rows (more_of word) vs v) where
  -- a name stands in a name's place
  abbrev IsNamedIn : Option Place → Word → Type 0
  IsNamedIn = MeetsDemand (name_demand k.version)

  abbrev short : Statement
  short = said word (ws ++ v ∷ [])

  abbrev long : Statement
  long = said word (ws ++ vs)

  shaped_less : IsShaped long → IsShaped short
  shaped_less shaped = record {
    many = omega (arith, length-append ws (v ∷ []), past);
    shape = each_less HasShape word ws vs v past one shaped.shape;
  }

  shaped_more : IsShaped short → IsShaped long
  shaped_more shaped = record {
    many = omega (arith, length-append ws vs, past);
    shape = each_more HasShape word ws vs v past
        (worst 1 (omega arith) (each_last HasShape word ws v past shaped.shape)) shaped.shape;
  }

  named_more : IsShaped short → IsNamed k.version short → IsNamed k.version long
  named_more shaped named =
      let shape = each_last HasShape word ws v past shaped.shape in
      let name = each_last IsNamedIn word ws v past named in
      each_more IsNamedIn word ws vs v past
      (All-weaker (HasFirst 2 k.version k.rows (more_of word)) (IsNamedIn (more_of word)) (λ w h. h.1) vs
      (worst 2 (omega arith) (shape, name))) named

  declared_more : IsShaped short → IsNamed k.version short → Keep rule.Declared k.rows short
      → Keep rule.Declared k.rows long
  declared_more shaped named declared =
      let shape = each_last HasShape word ws v past shaped.shape in
      let name = each_last IsNamedIn word ws v past named in
      let known = each_last (IsDeclaredIn k.rows) word ws v past declared in
      each_more (IsDeclaredIn k.rows) word ws vs v past
      (All-weaker (HasFirst 3 k.version k.rows (more_of word)) (IsDeclaredIn k.rows (more_of word)) (λ w h. h.2) vs
      (worst 3 (omega arith) (shape, name, known))) declared

  -- where the words that follow are names of a kind, and any number of them is a whole line
  module _ (kind : Kind) (used : more_of word ≡ Some (Used kind))
      (whole : (xs : List Word) → IsComplete k (said word xs)) (same : key_of short ≡ key_of long)
      (limit : IsWithinLimit k short → IsWithinLimit k long)
      (crowded : IsWithinLimit k short → Keep rule.Declared k.rows short → HasTailApart short → ⊥) where
    apart_less : HasTailApart long → HasTailApart short
    apart_less apart =
        subst (Differ (more_of word)) (sym (tail_parts word ws (v ∷ []) past))
        (differ_less (more_of word) (drop (length (places_of word)) ws) vs v one
        (subst (Differ (more_of word)) (tail_parts word ws vs past) apart))

    new_less : IsNew k.rows long → IsNew k.rows short
    new_less new = record {
      names = each_less (IsFreeIn k.rows) word ws vs v past one new.names;
      first = head_same (section_after word) k.rows long short (sym same) new.first;
    }

    new_more : IsNew k.rows short → IsNew k.rows long
    new_more new = record {
      names = each_more (IsFreeIn k.rows) word ws vs v past
          (λ i d lt. subst (λ place. IsFreeIn k.rows place (get_or vs i d)) (sym used) tt) new.names;
      first = head_same (section_after word) k.rows short long same new.first;
    }

    in_range_less : AreInRange k.version long → AreInRange k.version short
    in_range_less within = record {
      places = each_less IsWithinIn word ws vs v past one within.places;
      size = size_same k.version word ws vs (v ∷ []) past within.size;
      rising = names_rise word kind (ws ++ v ∷ []) used;
    }

    in_range_more : AreInRange k.version short → AreInRange k.version long
    in_range_more within = record {
      places = each_more IsWithinIn word ws vs v past
          (λ i d lt. subst (λ place. IsWithinIn place (get_or vs i d)) (sym used) tt) within.places;
      size = size_same k.version word ws (v ∷ []) vs past within.size;
      rising = names_rise word kind (ws ++ vs) used;
    }

    tail_less : length (tail_words short) ≤ length (tail_words long)
    tail_less =
        let some : one.0 < length vs = one.1 in
        omega (
          arith,
          length-drop (length (places_of word)) (ws ++ v ∷ []),
          length-drop (length (places_of word)) (ws ++ vs),
          length-append ws (v ∷ []),
          length-append ws vs,
          some,
        )

    limit_less : IsWithinLimit k long → IsWithinLimit k short
    limit_less within = record {
      room = within.room;
      few = few_less (most_more_of k.version word) _ _ tail_less within.few;
    }

    meets_less : (f : Fault) → Meets k long f → Meets k short f
    meets_less Misnamed h = each_less IsNamedIn word ws vs v past one h
    meets_less Unknown h = each_less (IsDeclaredIn k.rows) word ws vs v past one h
    meets_less Repeated h = new_less h
    meets_less OutOfRange h = in_range_less h
    meets_less PassesLimit h = limit_less h
    meets_less RepeatedHolder h = apart_less h
    meets_less SecondEntry h = body_same (section_after word) k.rows long short (sym same) h
    meets_less NoPrice h = h
    meets_less f h = tt

    applies_more : (f : Fault) → WordsHave k word (ws ++ v ∷ []) f → WordsHave k word (ws ++ vs) f
    applies_more Shape h = λ shaped complete. h (shaped_less shaped) (whole (ws ++ v ∷ []))
    applies_more Misplaced h = (shaped_more h.0, (whole (ws ++ vs), h.1.1))
    applies_more f h =
        (shaped_more h.0, (whole (ws ++ vs), h.1.1, λ meets. h.1.2 (meets_less f meets)))

    -- what the short line fails to meet is a fault, and so not below its least one
    missing : (f g : Fault) → IsLeastOf (WordsHave k word (ws ++ v ∷ [])) f → IsShaped short
        → MayStand k short → (Meets k short g → ⊥) → number_of_fault f ≤ number_of_fault g
    missing f Shape h shaped may fails = absurd (fails tt)
    missing f Misplaced h shaped may fails = absurd (fails tt)
    missing f g h shaped may fails = h.least g (shaped, (whole (ws ++ v ∷ []), may, fails))

    least_more : (f g : Fault) → IsLeastOf (WordsHave k word (ws ++ v ∷ [])) f → WordsHave k word (ws ++ vs) g
        → number_of_fault f ≤ number_of_fault g
    least_more f Shape h has =
        h.least Shape (λ shaped complete. has (shaped_more shaped) (whole (ws ++ vs)))
    least_more f Misplaced h has =
        h.least Misplaced (shaped_less has.0, (whole (ws ++ v ∷ []), has.1.1))
    least_more f Misnamed h has =
        let shaped = shaped_less has.0 in
        missing f Misnamed h shaped has.1.1 (λ named. has.1.2 (named_more shaped named))
    least_more f Unknown h has =
        let shaped = shaped_less has.0 in
        not_above (number_of_fault f) 3 (λ above.
        let unnamed : number_of_fault f ≤ 2 = missing f Misnamed h shaped has.1.1 (λ named.
        let unknown : number_of_fault f ≤ 3 = missing f Unknown h shaped has.1.1 (λ declared.
        has.1.2 (declared_more shaped named declared)) in
        omega (arith, above, unknown)) in
        omega (arith, above, unnamed))
    least_more f Repeated h has =
        missing f Repeated h (shaped_less has.0) has.1.1 (λ new. has.1.2 (new_more new))
    least_more f OutOfRange h has =
        missing f OutOfRange h (shaped_less has.0) has.1.1 (λ within. has.1.2 (in_range_more within))
    least_more f PassesLimit h has =
        missing f PassesLimit h (shaped_less has.0) has.1.1 (λ within. has.1.2 (limit within))
    least_more f RepeatedHolder h has =
        let shaped = shaped_less has.0 in
        not_above (number_of_fault f) 8 (λ above.
        let full : number_of_fault f ≤ 6 = missing f PassesLimit h shaped has.1.1 (λ within.
        let unknown : number_of_fault f ≤ 3 = missing f Unknown h shaped has.1.1 (λ declared.
        let repeated : number_of_fault f ≤ 8 = missing f RepeatedHolder h shaped has.1.1 (λ apart.
        crowded within declared apart) in
        omega (arith, above, repeated)) in
        omega (arith, above, unknown)) in
        omega (arith, above, full))
    least_more f SecondEntry h has =
        missing f SecondEntry h (shaped_less has.0) has.1.1
        (λ once. has.1.2 (body_same (section_after word) k.rows short long same once))
    least_more f NoPrice h has = missing f NoPrice h (shaped_less has.0) has.1.1 has.1.2
    least_more f g h has = absurd (has.1.2 tt)

    pub crowd_stands : StandsFor k word (ws ++ v ∷ []) (ws ++ vs)
    crowd_stands = record {
      least = λ f h. record { applies = applies_more f h.applies; least = λ g has. least_more f g h has };
      fit = λ shaped fit. absurd (crowded fit.within_limit fit.known fit.tail_apart);
    }
