-- Entries from a list of places and a list of events.
use Rattle.std.proofs.Common.{◌≡◌, ℕ, zero, suc, ◌-◌, ◌<◌, ◌≤◌, List, [], ◌∷◌, ◌++◌, length, get_or, Some}
use Rattle.std.proofs.Common.{refl, sym, ap, ◌∙◌, arith}
use Rattle.std.specs.Prelude.{◌↔◌, slice_get}
use Rattle.std.proofs.lemmas.Option.{get_or_from_slice_get, slice_get_within}
use Rattle.master_state.specs.declared.events.Event.{Event}
use Rattle.hand_ledger.specs.declared.entries.Entry.{Entry}
use Rattle.hand_ledger.specs.Entries.{entries_from, EntriesValue}
use Rattle.hand_ledger.specs.Settling.{event_at}

abbrev pub entry : ℕ → Event → Entry
entry place event = record { place = place; event = event }

length-entries : (ps : List ℕ) (es : List Event) → length ps ≡ length es →
    length (entries_from ps es) ≡ length ps
length-entries [] es is = refl
length-entries (p ∷ ps) [] is = absurd (omega arith)
length-entries (p ∷ ps) (e ∷ es) is = ap suc (length-entries ps es (omega arith))

-- one more of both
pub entries_push : (ps : List ℕ) (es : List Event) (p : ℕ) (e : Event) → length ps ≡ length es →
    entries_from (ps ++ p ∷ []) (es ++ e ∷ []) ≡ entries_from ps es ++ entry p e ∷ []
entries_push [] [] p e is = refl
entries_push [] (x ∷ es) p e is = absurd (omega arith)
entries_push (q ∷ ps) [] p e is = absurd (omega arith)
entries_push (q ∷ ps) (x ∷ es) p e is = ap (λ l. entry q x ∷ l) (entries_push ps es p e (omega arith))

-- the entry at an index
pub entry_at : (ps : List ℕ) (es : List Event) (i p : ℕ) (e : Event) → i < length ps →
    p ≡ get_or ps i p → slice_get es i ≡ Some e → slice_get (entries_from ps es) i ≡ Some (entry p e)
entry_at [] es i p e lt is at = absurd (omega arith)
entry_at (x ∷ ps) [] i p e lt is at = absurd cc
entry_at (x ∷ ps) (y ∷ es) zero p e lt is at = grind arith
entry_at (x ∷ ps) (y ∷ es) (suc i) p e lt is at = entry_at ps es i p e (omega arith) is at

-- the place and the event at an index, by the entry
entry_parts : (ps : List ℕ) (es : List Event) (i : ℕ) (x : Entry) →
    slice_get (entries_from ps es) i ≡ Some x → (slice_get ps i ≡ Some x.place) × (slice_get es i ≡ Some x.event)
entry_parts [] es i x at = absurd cc
entry_parts (p ∷ ps) [] i x at = absurd cc
entry_parts (p ∷ ps) (e ∷ es) zero x at = grind arith
entry_parts (p ∷ ps) (e ∷ es) (suc i) x at = entry_parts ps es i x at

-- an event stands at a place exactly if it is the event of the history there
pub stands_at : (history es : List Event) (i place : ℕ) (event : Event) → slice_get es i ≡ Some event →
    1 ≤ place → (slice_get es i ≡ slice_get history (place - 1)) ↔ (event_at history place ≡ Some event)
stands_at history es i zero event at some = absurd (omega arith)
stands_at history es i (suc k) event at some =
    let before : suc k - 1 ≡ k = omega arith in
    rw before (λ is. sym is ∙ at, λ is. at ∙ sym is)

-- and at no place where there is none
pub stands_at_zero : (history : List Event) (place : ℕ) (event : Event) → place ≡ 0 →
    event_at history place ≡ Some event → ⊥
stands_at_zero history zero event none at = absurd cc
stands_at_zero history (suc k) event none at = absurd (omega arith)

pub stands_nowhere : (history : List Event) (place : ℕ) (event : Event) → length history < place →
    event_at history place ≡ Some event → ⊥
stands_nowhere history zero event past at = absurd (omega arith)
stands_nowhere history (suc k) event past at =
    absurd (omega (arith, slice_get_within history k event at))

-- the place at an index that was read, and the event there, by the entry
pub parts_read : (ps : List ℕ) (es : List Event) (i p : ℕ) (x : Entry) {room : ℕ} {entries : EntriesValue} →
    record { items = entries_from ps es; room = room } ≡ entries → p ≡ get_or ps i p →
    slice_get entries.items i ≡ Some x → (p ≡ x.place) × (slice_get es i ≡ Some x.event)
parts_read ps es i p x view is at =
    let parts = entry_parts ps es i x (ap (λ (v : EntriesValue). slice_get v.items i) view ∙ at) in
    (is ∙ get_or_from_slice_get ps i x.place p parts.0, parts.1)

-- how many entries there are, and the room for them, by their parts
pub record HasSizes (ps : List ℕ) (es : List Event) (room : ℕ) (entries : EntriesValue) : Type 0 where
  pub places : length entries.items ≡ length ps
  pub events : length entries.items ≡ length es
  pub room_is : entries.room ≡ room

pub sizes_are : (ps : List ℕ) (es : List Event) (room : ℕ) (entries : EntriesValue) →
    record { items = entries_from ps es; room = room } ≡ entries → length ps ≡ length es →
    HasSizes ps es room entries
sizes_are ps es room entries view same =
    let long : length entries.items ≡ length ps =
    sym (ap (λ (v : EntriesValue). length v.items) view) ∙ length-entries ps es same in
    record { places = long; events = long ∙ same; room_is = sym (ap (λ (v : EntriesValue). v.room) view) }
