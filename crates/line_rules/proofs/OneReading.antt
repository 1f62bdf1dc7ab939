-- A text is read in one way: it says one list of statements, or it has one least fault.
use Rattle.std.proofs.Common.{ℕ, List, [], ◌∷◌, ◌≡◌, ◌≤◌, ◌<◌, ◌+◌, ◌⊎◌, ◌∙◌, inl, inr, length, refl}
use Rattle.std.proofs.Common.{sym, ap, arith}
use Rattle.std.specs.Prelude.{◌==◌, if◌then◌else◌}
use Rattle.text_lines.specs.Streams.{longest}
use Rattle.text_lines.specs.Texts.{Line}
use Rattle.text_lines.specs.Faults.{number_of_fault}
use Rattle.text_lines.specs.declared.fault.Fault.{Fault}
use Rattle.text_lines.specs.declared.fault.Fault.TheVariants.{Shape, Misnamed, Unknown, Repeated, OutOfRange}
use Rattle.text_lines.specs.declared.fault.Fault.TheVariants.{PassesLimit, Misplaced, RepeatedHolder}
use Rattle.text_lines.specs.declared.fault.Fault.TheVariants.{SecondEntry, NoPrice, TooLong, NoFeed}
use Rattle.text_lines.specs.declared.fault.Fault.TheVariants.{Unprintable, AfterEnd}
use Rattle.line_shapes.specs.Lines.{Statement}
use Rattle.line_shapes.proofs.OneStatement.{says-unique}
use Rattle.line_rules.specs.Texts.{Declare, IsLeastAt, IsLeastFault, ReadsAs}
use Rattle.line_rules.specs.declared.purpose.Purpose.{Purpose}

-- ---- the statements

pub declare-unique : (ls : List Line) (a b : List Statement) → Declare ls a → Declare ls b → a ≡ b
declare-unique [] [] [] ha hb = refl
declare-unique [] [] (t ∷ ts) ha hb = absurd hb
declare-unique [] (s ∷ ss) b ha hb = absurd ha
declare-unique (l ∷ ls) [] [] ha hb = refl
declare-unique (l ∷ ls) [] (t ∷ ts) ha (inl hb) = absurd (ha.0 t hb.0)
declare-unique (l ∷ ls) [] (t ∷ ts) ha (inr hb) = declare-unique ls [] (t ∷ ts) ha.1 hb.1
declare-unique (l ∷ ls) (s ∷ ss) [] (inl ha) hb = absurd (hb.0 s ha.0)
declare-unique (l ∷ ls) (s ∷ ss) [] (inr ha) hb = declare-unique ls (s ∷ ss) [] ha.1 hb.1
declare-unique (l ∷ ls) (s ∷ ss) (t ∷ ts) (inl ha) (inl hb) =
    grind (arith, declare-unique ls ss ts ha.1 hb.1, says-unique)
declare-unique (l ∷ ls) (s ∷ ss) (t ∷ ts) (inl ha) (inr hb) = absurd (hb.0 s ha.0)
declare-unique (l ∷ ls) (s ∷ ss) (t ∷ ts) (inr ha) (inl hb) = absurd (ha.0 t hb.0)
declare-unique (l ∷ ls) (s ∷ ss) (t ∷ ts) (inr ha) (inr hb) = declare-unique ls (s ∷ ss) (t ∷ ts) ha.1 hb.1

pub reads-unique : (purpose : Purpose) (text : List ℕ) (ss ts : List Statement) → ReadsAs purpose text ss
    → ReadsAs purpose text ts → ss ≡ ts
reads-unique purpose text ss ts a b = grind (arith, declare-unique)

-- ---- the fault

-- the fault that is told by a number
abbrev fault_told : ℕ → Fault
fault_told number =
    if number == 1 then Shape
    else if number == 2 then Misnamed
    else if number == 3 then Unknown
    else if number == 4 then Repeated
    else if number == 5 then OutOfRange
    else if number == 6 then PassesLimit
    else if number == 7 then Misplaced
    else if number == 8 then RepeatedHolder
    else if number == 9 then SecondEntry
    else if number == 10 then NoPrice
    else if number == 11 then TooLong
    else if number == 12 then NoFeed
    else if number == 13 then Unprintable
    else AfterEnd

told_by_number : (f : Fault) → fault_told (number_of_fault f) ≡ f
told_by_number Shape = refl
told_by_number f = refl

-- no two faults have one number
pub number_of_fault-injective : (f g : Fault) → number_of_fault f ≡ number_of_fault g → f ≡ g
number_of_fault-injective f g same = sym (told_by_number f) ∙ ap fault_told same ∙ told_by_number g

least_at-unique : (purpose : Purpose) (text : List ℕ) (i j : ℕ) (f g : Fault) → IsLeastAt purpose text i f
    → IsLeastAt purpose text j g → (i ≡ j) × (f ≡ g)
least_at-unique purpose text i j f g a b = by (a.least j g b.applies) (b.least i f a.applies)
  where
    by : (i < j) ⊎ ((i ≡ j) × (number_of_fault f ≤ number_of_fault g))
        → (j < i) ⊎ ((j ≡ i) × (number_of_fault g ≤ number_of_fault f)) → (i ≡ j) × (f ≡ g)
    by (inl p) (inl q) = absurd (omega arith)
    by (inl p) (inr q) = absurd (omega (arith, q.0))
    by (inr p) (inl q) = absurd (omega (arith, p.0))
    by (inr p) (inr q) = (p.0, number_of_fault-injective f g (omega (arith, p.1, q.1)))

-- the fault is that of a text which is too long
record IsOfLength (text : List ℕ) (line : ℕ) (f : Fault) : Type 0 where
  pub fault : f ≡ TooLong
  pub whole : line ≡ 0
  pub long : longest text < length text

-- or it is that of a line
record IsOfLine (purpose : Purpose) (text : List ℕ) (line : ℕ) (f : Fault) : Type 0 where
  pub place : ℕ
  pub number : line ≡ place + 1
  pub least : IsLeastAt purpose text place f

of_length_or_line : (purpose : Purpose) (text : List ℕ) (line : ℕ) (f : Fault)
    → IsLeastFault purpose text line f → IsOfLength text line f ⊎ IsOfLine purpose text line f
of_length_or_line purpose text line TooLong h = inl (record { fault = refl; whole = h.0; long = h.1 })
of_length_or_line purpose text line f h = inr (record { place = h.0; number = h.1; least = h.2 })

not_both : (purpose : Purpose) (text : List ℕ) (line number : ℕ) (f g : Fault) → IsOfLength text line f
    → IsOfLine purpose text number g → ⊥
not_both purpose text line number f g a b = omega (arith, a.long, b.least.short)

pub least_fault-unique : (purpose : Purpose) (text : List ℕ) (line number : ℕ) (f g : Fault)
    → IsLeastFault purpose text line f → IsLeastFault purpose text number g → (line ≡ number) × (f ≡ g)
least_fault-unique purpose text line number f g a b =
    by (of_length_or_line purpose text line f a) (of_length_or_line purpose text number g b)
  where
    by : IsOfLength text line f ⊎ IsOfLine purpose text line f
        → IsOfLength text number g ⊎ IsOfLine purpose text number g → (line ≡ number) × (f ≡ g)
    by (inl p) (inl q) = (p.whole ∙ sym q.whole, p.fault ∙ sym q.fault)
    by (inl p) (inr q) = absurd (not_both purpose text line number f g p q)
    by (inr p) (inl q) = absurd (not_both purpose text number line g f q p)
    by (inr p) (inr q) =
        let same = least_at-unique purpose text p.place q.place f g p.least q.least in
        (p.number ∙ ap (λ (i : ℕ). i + 1) same.0 ∙ sym q.number, same.1)

-- a text that says its statements has no least fault
pub reads-faultless : (purpose : Purpose) (text : List ℕ) (ss : List Statement) (line : ℕ) (f : Fault)
    → ReadsAs purpose text ss → IsLeastFault purpose text line f → ⊥
reads-faultless purpose text ss line f reads h =
    by (of_length_or_line purpose text line f h)
  where
    by : IsOfLength text line f ⊎ IsOfLine purpose text line f → ⊥
    by (inl p) = omega (arith, p.long, reads.faultless.short)
    by (inr p) = reads.faultless.none p.place f p.least.applies
