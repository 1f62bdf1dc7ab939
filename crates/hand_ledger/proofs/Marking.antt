-- What a table of places says of calls.
use Rattle.std.proofs.Common.{◌≡◌, ℕ, zero, suc, ◌+◌, ◌-◌, ◌<◌, ◌≤◌, Bool, List, [], ◌∷◌, length, get_or}
use Rattle.std.proofs.Common.{drop, All}
use Rattle.std.proofs.Common.{IsTrue, subst, Option, Some, None, refl, sym, ap, ◌∙◌, arith, ◌↔◌}
use Rattle.std.specs.Option.{option_map_or}
use Rattle.std.specs.Prelude.{slice_get}
use Rattle.std.proofs.lemmas.List.{get_or_default}
use Rattle.std.proofs.lemmas.Option.{slice_get_past}
use Rattle.std.proofs.lemmas.Bool.Decides.{nat_tests}
use Rattle.std.proofs.Math.Decide.{dec_le}
use Rattle.master_state.specs.declared.events.Event.{Event}
use Rattle.master_state.specs.declared.states.Start.{Start}
use Rattle.hand_ledger.specs.declared.marks.Found.{Found}
use Rattle.hand_ledger.specs.declared.marks.Found.TheVariants.{Nowhere, Once, Wrong}
use Rattle.hand_ledger.specs.declared.marks.TheConstants.{PLACES}
use Rattle.hand_ledger.specs.declared.entries.Entry.{Entry}
use Rattle.hand_ledger.specs.Hands.{Kept, HandValue, counts_in, starts_in}
use Rattle.hand_ledger.specs.Inside.{calls_of}
use Rattle.hand_ledger.specs.Marks.{Describes, Marks, wanted, IsRight, IsAsWanted, IsFirstWrong}
use Rattle.hand_ledger.specs.Marks.{AreNonePast, IsLowestFrom}
use Rattle.hand_ledger.specs.Settling.{LogValue, at_place, call_at, all_calls}
use Rattle.hand_ledger.specs.Settling.{AreTrue, AgreesAt}

-- no call stands past the greatest place of the entries
pub none_past : (es : List Entry) (cs : List (List ℕ)) (ss : List Start) {last : ℕ} →
    All (λ entry. entry.place ≤ last) es → AreNonePast last (calls_of es cs ss)
none_past [] cs ss low place past = refl
none_past (e ∷ es) cs ss low place past =
    grind (
      arith,
      nat_tests,
      low 0 e,
      none_past es (drop (counts_in e.event) cs) (drop (starts_in e.event) ss)
          (λ k d lt. low (suc k) d (omega arith)) place past,
    )

-- one at each place of the history, and none elsewhere
just_one : (f : Event → Kept) (history : List Event) (k : ℕ) → k < length history →
    length (option_map_or (λ e. f e ∷ []) (slice_get history k) []) ≡ 1
just_one f [] k lt = absurd (omega arith)
just_one f (x ∷ xs) zero lt = refl
just_one f (x ∷ xs) (suc k) lt = just_one f xs k (omega arith)

pub no_call : (log : LogValue) (place : ℕ) → length log.history < place → call_at log place ≡ []
no_call log zero past = absurd (omega arith)
no_call log (suc k) past = grind (arith, slice_get_past)

-- what was found is right where the calls are those that are wanted, and nowhere else
once_is : (f : Found) (calls ws : List Kept) → length ws ≡ 1 → Describes f calls ws →
    (f ≡ Once) ↔ (calls ≡ ws)
once_is Nowhere calls ws one says =
    (λ e. absurd (cc e), λ e. absurd (omega (arith, ap length (sym e ∙ says))))
once_is Once calls ws one says = (λ e. says.0, λ e. refl)
once_is Wrong calls ws one says = (λ e. absurd (cc e), λ e. absurd (says.1 e))

nowhere_is : (f : Found) (calls : List Kept) → Describes f calls [] → (f ≡ Nowhere) ↔ (calls ≡ [])
nowhere_is Nowhere calls says = (λ e. says, λ e. refl)
nowhere_is Once calls says = (λ e. absurd (cc e), λ e. absurd (omega (arith, says.1)))
nowhere_is Wrong calls says = (λ e. absurd (cc e), λ e. absurd (says.0 e))

wanted_in : (events place : ℕ) → 1 ≤ place → place ≤ events → wanted events place ≡ Once
wanted_in events place low high = grind (arith, nat_tests)

-- the place is told exactly where what was found is wanted
told_at : (log : LogValue) (calls : List Kept) (f : Found) (place : ℕ) →
    Describes f (at_place place calls) (call_at log place) →
    (f ≡ wanted (length log.history) place) ↔ (at_place place calls ≡ call_at log place)
told_at log calls f zero says = nowhere_is f (at_place 0 calls) says
told_at log calls f (suc k) says = elim (dec_le (suc k) (length log.history)) [
  | yes within ↦
      rw (wanted_in (length log.history) (suc k) (omega arith) within)
      (once_is f (at_place (suc k) calls) (call_at log (suc k)) (just_one _ log.history k within) says)
  | no past ↦
      let none = no_call log (suc k) (omega arith) in
      grind arith
]

module _ (log : LogValue) (short notes : Bool) (hands : List HandValue) (found : List Found)
    (first : ℕ) (marks : Marks log first (all_calls hands) found)
    (true_notes : IsTrue notes ↔ All (AreTrue short) hands) where
  -- so it holds exactly where it is right
  right_is : (n : ℕ) → n < PLACES →
      IsRight (length log.history) notes first found n ↔ AgreesAt log short hands (first + n)
  right_is n lt =
      let told : (d : Found) → (get_or found n d ≡ wanted (length log.history) (first + n))
      ↔ (at_place (first + n) (all_calls hands) ≡ call_at log (first + n)) =
      λ d. told_at log (all_calls hands) (get_or found n d) (first + n) (marks n d lt) in (
        λ right. record {
          told = (told Nowhere).0 (right Nowhere).seen;
          notes = λ last. true_notes.0 ((right Nowhere).noted last);
        },
        λ holds d. record { seen = (told d).1 holds.told; noted = λ last. true_notes.1 (holds.notes last) },
      )

  pub lowest_from : (torn : Option ℕ) → IsFirstWrong (length log.history) notes first found torn →
      IsLowestFrom log short hands first torn
  lowest_from None all = λ n lt. (right_is n lt).0 (all n lt)
  lowest_from (Some t) is = (
    is.0,
    λ holds. is.1 ((right_is t is.0).1 holds),
    λ m lt. (right_is m (omega (arith, is.0))).0 (is.2 m lt),
  )

-- Where all places agree up to the last one, past which there is neither an event nor a call, all do.
module _ (log : LogValue) (short : Bool) (hands : List HandValue) (last : ℕ)
    (events : length log.history + 1 ≤ last) (none : AreNonePast last (all_calls hands)) where
  pub all_agree : ((place : ℕ) → place ≤ last → AgreesAt log short hands place) → (place : ℕ) →
      AgreesAt log short hands place
  all_agree all place = elim (dec_le place last) [
    | yes within ↦ all place within
    | no past ↦ record {
      told = none place (omega arith) ∙ sym (no_call log place (omega arith));
      notes = λ is_last. absurd (omega arith);
    }
  ]

-- what holds below a place and at so many from it on holds below the place after them
pub up_to : (P : ℕ → Type 0) (first size : ℕ) → ((place : ℕ) → place < first → P place) →
    ((n : ℕ) → n < size → P (first + n)) → (place : ℕ) → place < first + size → P place
up_to P first size low more place lt = elim (dec_le first place) [
  | yes from ↦
      let is : first + (place - first) ≡ place = omega arith in
      subst P is (more (place - first) (omega arith))
  | no before ↦ low place (omega arith)
]

-- a table in which nothing was found
pub marks_none : (log : LogValue) (found : List Found) →
    ((n : ℕ) (d : Found) → n < PLACES → get_or found n d ≡ Nowhere) → (first : ℕ) → Marks log first [] found
marks_none log found none first = grind arith

-- one place on
pub right_more : (events : ℕ) (notes : Bool) (first : ℕ) (found : List Found) (n : ℕ) → n < length found →
    IsAsWanted events notes (get_or found n Nowhere) (first + n) →
    ((p : ℕ) → p < n → IsRight events notes first found p) →
    (p : ℕ) → p < n + 1 → IsRight events notes first found p
right_more events notes first found n within here before p lt d = grind (arith, get_or_default)
