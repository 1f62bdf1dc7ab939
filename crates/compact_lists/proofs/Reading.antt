-- How entries read where lists go on, and which of them are one event.
use Rattle.std.proofs.Common.{◌≡◌, ℕ, ◌<◌, ◌≤◌, subst, Bool, true, false, List, [], ◌∷◌, ◌++◌, length, map, All, get_or}
use Rattle.std.proofs.Common.{Some, if◌then◌else◌, refl, sym, ap, ◌∙◌, length-append, arith}
use Rattle.std.specs.Prelude.{◌↔◌, slice_get, slice_index_or}
use Rattle.std.specs.Option.{option_map}
use Rattle.std.proofs.lemmas.List.{get_or_append_left, get_or_push}
use Rattle.std.proofs.lemmas.Option.{slice_get-map, slice_get_read}
use Rattle.std.proofs.lemmas.List.Elements.{All-head, All-push, All-tail, All-weaker}
use Rattle.master_state.specs.declared.events.Event.{Event}
use Rattle.master_state.specs.declared.events.Event.TheVariants as event
use Rattle.compact_lists.specs.declared.entries.Totals.{Totals}
use Rattle.compact_lists.specs.declared.entries.Entry.{Entry}
use Rattle.compact_lists.specs.declared.entries.Entry.TheVariants.{Ahead, Wave, MapDone, MapFailed, Withdraw}
use Rattle.compact_lists.specs.declared.entries.Entry.TheVariants.{Die, Join, Add, Lose, Sweep, ReduceStart}
use Rattle.compact_lists.specs.declared.entries.Entry.TheVariants.{PartDone, PartFailed, Backup}
use Rattle.compact_lists.specs.Entries.{ahead_of, event_of, GoesOn, is_whole, IsWithin, no_totals, wave_of}

-- a list goes on as it is, or with one element more
pub goes_on_same : {X : Type 0} (xs : List X) → GoesOn xs xs
goes_on_same xs = record { no_less = omega arith; one_more = omega arith; same = λ i d below. refl }

pub goes_on_more : {X : Type 0} (xs ys : List X) (x : X) → ys ≡ xs ++ x ∷ [] → GoesOn xs ys
goes_on_more xs ys x is =
    let long = ap length is ∙ length-append xs (x ∷ []) in
    record {
      no_less = omega (arith, long);
      one_more = omega (arith, long);
      same = λ i d below. ap (λ zs. slice_index_or zs i d) is ∙ get_or_append_left xs (x ∷ []) d i below;
    }

-- what an entry names is there where there are more totals
within_more : (e : Entry) (sets few more : ℕ) → few ≤ more → IsWithin sets few e → IsWithin sets more e
within_more (Wave first place) sets few more le within = omega (arith, le, within)
within_more (Ahead first place) sets few more le within = omega (arith, le, within)
within_more (MapDone x) sets few more le within = within
within_more (MapFailed x) sets few more le within = within
within_more (Withdraw x) sets few more le within = within
within_more (Die x) sets few more le within = within
within_more (Join w place) sets few more le within = within
within_more (Add x y) sets few more le within = within
within_more (Lose x y) sets few more le within = within
within_more (Sweep x) sets few more le within = within
within_more (ReduceStart x y z) sets few more le within = within
within_more (PartDone x) sets few more le within = within
within_more (PartFailed x) sets few more le within = within
within_more (Backup x y z) sets few more le within = within

pub within_pushed : (es new : List Entry) (e : Entry) (sets few more : ℕ) → new ≡ es ++ e ∷ [] → few ≤ more →
    All (IsWithin sets few) es → IsWithin sets more e → All (IsWithin sets more) new
within_pushed es new e sets few more is le all last =
    subst (All (IsWithin sets more)) (sym is)
    (All-push (IsWithin sets more) es e
    (All-weaker (IsWithin sets few) (IsWithin sets more) (λ x within. within_more x sets few more le within) es all)
    last)

-- the set that was added last
pub join_read : (sets more : List (List ℕ)) (set : List ℕ) (place : ℕ) → more ≡ sets ++ set ∷ []
    → place ≡ length sets → slice_index_or more place [] ≡ set
join_read sets more set place is at =
    ap (λ xs. slice_index_or xs place []) is ∙ get_or_push sets set [] place (sym at)

-- an entry's event is the same where lists go on
event_same : (e : Entry) (sets new_sets : List (List ℕ)) (totals new_totals : List Totals) →
    GoesOn sets new_sets → GoesOn totals new_totals → IsWithin (length sets) (length totals) e →
    event_of new_sets new_totals e ≡ event_of sets totals e
event_same (Wave first place) sets new_sets totals new_totals on more within =
    ap (wave_of first) (more.same place no_totals within)
event_same (Ahead first place) sets new_sets totals new_totals on more within =
    ap (ahead_of first) (more.same place no_totals within)
event_same (MapDone x) sets new_sets totals new_totals on more within = refl
event_same (MapFailed x) sets new_sets totals new_totals on more within = refl
event_same (Withdraw x) sets new_sets totals new_totals on more within = refl
event_same (Die x) sets new_sets totals new_totals on more within = refl
event_same (Join w place) sets new_sets totals new_totals on more within =
    ap (event.Join w) (on.same place [] within)
event_same (Add x y) sets new_sets totals new_totals on more within = refl
event_same (Lose x y) sets new_sets totals new_totals on more within = refl
event_same (Sweep x) sets new_sets totals new_totals on more within = refl
event_same (ReduceStart x y z) sets new_sets totals new_totals on more within = refl
event_same (PartDone x) sets new_sets totals new_totals on more within = refl
event_same (PartFailed x) sets new_sets totals new_totals on more within = refl
event_same (Backup x y z) sets new_sets totals new_totals on more within = refl

pub events_same : (es : List Entry) (sets new_sets : List (List ℕ)) (totals new_totals : List Totals) →
    GoesOn sets new_sets → GoesOn totals new_totals → All (IsWithin (length sets) (length totals)) es →
    map (event_of new_sets new_totals) es ≡ map (event_of sets totals) es
events_same [] sets new_sets totals new_totals on more all = refl
events_same (e ∷ es) sets new_sets totals new_totals on more all =
    let IsThere : Entry → Type 0 = IsWithin (length sets) (length totals) in
    let first = event_same e sets new_sets totals new_totals on more (All-head IsThere e es all) in
    let others = events_same es sets new_sets totals new_totals on more (All-tail IsThere e es all) in
    λ k. first k ∷ others k

-- the entry of an event that names nothing
abbrev whole_of : Event → Entry
whole_of (event.Wave first count cost) = Wave 0 0
whole_of (event.Ahead first count cost) = Wave 0 0
whole_of (event.MapDone a) = MapDone a
whole_of (event.MapFailed a) = MapFailed a
whole_of (event.Withdraw a) = Withdraw a
whole_of (event.Die w) = Die w
whole_of (event.Join w set) = Wave 0 0
whole_of (event.Add s w) = Add s w
whole_of (event.Lose s w) = Lose s w
whole_of (event.Sweep place) = Sweep place
whole_of (event.ReduceStart a part w) = ReduceStart a part w
whole_of (event.PartDone a) = PartDone a
whole_of (event.PartFailed a) = PartFailed a
whole_of (event.Backup a s w) = Backup w a s

-- an entry that names nothing is its event's; another one's event has none
whole_back : (e : Entry) (sets : List (List ℕ)) (totals : List Totals) →
    whole_of (event_of sets totals e) ≡ (if is_whole e then e else Wave 0 0)
whole_back (Wave first place) sets totals = refl
whole_back (Ahead first place) sets totals = refl
whole_back (MapDone x) sets totals = refl
whole_back (MapFailed x) sets totals = refl
whole_back (Withdraw x) sets totals = refl
whole_back (Die x) sets totals = refl
whole_back (Join w place) sets totals = refl
whole_back (Add x y) sets totals = refl
whole_back (Lose x y) sets totals = refl
whole_back (Sweep x) sets totals = refl
whole_back (ReduceStart x y z) sets totals = refl
whole_back (PartDone x) sets totals = refl
whole_back (PartFailed x) sets totals = refl
whole_back (Backup x y z) sets totals = refl

-- its event needs no list
whole_alone : (e : Entry) (sets more_sets : List (List ℕ)) (totals more_totals : List Totals) →
    is_whole e ≡ true → event_of sets totals e ≡ event_of more_sets more_totals e
whole_alone (Wave first place) sets more_sets totals more_totals is = absurd cc
whole_alone (Ahead first place) sets more_sets totals more_totals is = absurd cc
whole_alone (MapDone x) sets more_sets totals more_totals is = refl
whole_alone (MapFailed x) sets more_sets totals more_totals is = refl
whole_alone (Withdraw x) sets more_sets totals more_totals is = refl
whole_alone (Die x) sets more_sets totals more_totals is = refl
whole_alone (Join w place) sets more_sets totals more_totals is = absurd cc
whole_alone (Add x y) sets more_sets totals more_totals is = refl
whole_alone (Lose x y) sets more_sets totals more_totals is = refl
whole_alone (Sweep x) sets more_sets totals more_totals is = refl
whole_alone (ReduceStart x y z) sets more_sets totals more_totals is = refl
whole_alone (PartDone x) sets more_sets totals more_totals is = refl
whole_alone (PartFailed x) sets more_sets totals more_totals is = refl
whole_alone (Backup x y z) sets more_sets totals more_totals is = refl

same_back : (a b : Entry) (is_b : Bool) → is_whole a ≡ true → a ≡ (if is_b then b else Wave 0 0) → a ≡ b
same_back a b true whole is = is
same_back a b false whole is = absurd (let no : false ≡ true = sym (ap is_whole is) ∙ whole in cc)

-- where one of two entries names nothing, they are one exactly if their events are
pub same_if_whole : (a b : Entry) (sets more_sets : List (List ℕ)) (totals more_totals : List Totals) →
    is_whole a ≡ true → (a ≡ b) ↔ (event_of sets totals a ≡ event_of more_sets more_totals b)
same_if_whole a b sets more_sets totals more_totals whole = (
  λ is. whole_alone a sets more_sets totals more_totals whole ∙ ap (event_of more_sets more_totals) is,
  λ is. same_back a b (is_whole b) whole
      (sym (ap (λ t. if t then a else Wave 0 0) whole) ∙ sym (whole_back a sets totals) ∙ ap whole_of is
      ∙ whole_back b more_sets more_totals),
)

-- the event at an index, by its entry
pub read_at : (f : Entry → Event) (es : List Entry) (i : ℕ) (e : Entry) → i < length es → e ≡ get_or es i e →
    slice_get (map f es) i ≡ Some (f e)
read_at f es i e lt is =
    slice_get-map f es i ∙ ap (option_map f) (slice_get_read es (length es) i e refl lt is)
