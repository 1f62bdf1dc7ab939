-- The calls that lists of entries, counts and starts stand for.
use Rattle.std.proofs.Common.{◌≡◌, ℕ, zero, suc, ◌+◌, ◌-◌, ◌≤◌, List, [], ◌∷◌, ◌++◌, length, take, drop}
use Rattle.std.proofs.Common.{get_or, ◌<◌, ◌&&◌, nat_lt, nat_le, Bool, true, false, None, Option, Some}
use Rattle.std.proofs.Common.{refl, sym, ap, subst, ◌∙◌, arith, sum_by}
use Rattle.std.specs.Prelude.{◌↔◌, slice_get}
use Rattle.std.specs.Option.{option_map_or, option_to_list}
use Rattle.std.proofs.lemmas.List.{drop-drop, take-append-le, drop-append-le, take_all, drop_at, length-drop}
use Rattle.std.proofs.lemmas.List.{length-take-le, length-append, append-nil, append_assoc, take_more}
use Rattle.std.proofs.lemmas.List.Elements.{All-push}
use Rattle.std.proofs.lemmas.Option.{slice_get-get_or}
use Rattle.std.proofs.lemmas.Bool.Decides.{nat_tests}
use Rattle.std.proofs.lemmas.Grind.{common_steps}
use Rattle.std.proofs.lemmas.List.Sums.{sum_by-cons, sum_by_push, sum_by_more}
use Rattle.master_state.specs.declared.events.Event.{Event}
use Rattle.master_state.specs.declared.states.Limits.{Limits}
use Rattle.master_state.specs.declared.states.Start.{Start}
use Rattle.hand_ledger.specs.declared.entries.Entry.{Entry}
use Rattle.hand_ledger.specs.Hands.{Kept, kept, HandValue, counts_in, starts_in, all_counts, all_starts}
use Rattle.hand_ledger.specs.Hands.{grown, has_room, with_place}
use Rattle.hand_ledger.specs.Inside.{calls_of, counts_taken, starts_taken, AreKept, IsPlace}
use Rattle.hand_ledger.specs.Settling.{LogValue, all_calls, event_at, call_at, counts_at, starts_at}

-- the call of an entry, whose counts and starts begin at these places
abbrev pub call_of : Entry → List (List ℕ) → List Start → Kept
call_of e counts starts =
    kept e.place e.event (take (counts_in e.event) counts) (take (starts_in e.event) starts)

-- how many counts, and how many starts, an entry takes
abbrev pub counts_of : Entry → ℕ
counts_of e = counts_in e.event

abbrev pub starts_of : Entry → ℕ
starts_of e = starts_in e.event

-- where the next elements begin, after those of an entry and of others
taken_on : {X : Type 0} (f : Entry → ℕ) (x : Entry) (es : List Entry) (xs : List X) →
    drop (sum_by f es) (drop (f x) xs) ≡ drop (sum_by f (x ∷ es)) xs
taken_on f x es xs = drop-drop (sum_by f es) (f x) xs ∙ ap (λ n. drop n xs) (sym (sum_by-cons f x es))

-- one entry more
pub calls_more : (es : List Entry) (e : Entry) (cs : List (List ℕ)) (ss : List Start) →
    calls_of (es ++ e ∷ []) cs ss
    ≡ calls_of es cs ss ++ call_of e (drop (counts_taken es) cs) (drop (starts_taken es) ss) ∷ []
calls_more [] e cs ss = refl
calls_more (x ∷ es) e cs ss =
    grind (
      arith,
      calls_more es e (drop (counts_in x.event) cs) (drop (starts_in x.event) ss),
      common_steps,
      taken_on,
    )

-- the first one's part of what all take, and that of the others
taken_parts : {X : Type 0} (f : Entry → ℕ) (x : Entry) (es : List Entry) (xs : List X) →
    sum_by f (x ∷ es) ≤ length xs → (f x ≤ length xs) × (sum_by f es ≤ length (drop (f x) xs))
taken_parts f x es xs le =
    let sum = sum_by-cons f x es in (omega arith, omega (arith, length-drop (f x) xs))

-- counts and starts more, which no entry takes
pub calls_same : (es : List Entry) (cs more : List (List ℕ)) (ss others : List Start) →
    counts_taken es ≤ length cs → starts_taken es ≤ length ss →
    calls_of es (cs ++ more) (ss ++ others) ≡ calls_of es cs ss
calls_same [] cs more ss others c s = refl
calls_same (x ∷ es) cs more ss others c s =
    let n = counts_in x.event in
    let m = starts_in x.event in
    let few = taken_parts counts_of x es cs c in
    let short = taken_parts starts_of x es ss s in
    grind (
      arith,
      calls_same es (drop n cs) more (drop m ss) others few.1 short.1,
      take-append-le,
      drop-append-le,
    )

-- what comes after the first elements, and all of it
taken_back : {X : Type 0} (n : ℕ) (first back : List X) (k : ℕ) → k ≡ length first → length back ≡ n →
    take n (drop k (first ++ back)) ≡ back
taken_back n first back k whole long =
    ap (take n) (drop_at first back k (sym whole)) ∙ take_all n back (omega arith)

-- one entry more, with its counts and its starts
pub calls_kept : (es : List Entry) (e : Entry) (cs more : List (List ℕ)) (ss others : List Start) →
    counts_taken es ≡ length cs → starts_taken es ≡ length ss →
    length more ≡ counts_in e.event → length others ≡ starts_in e.event →
    calls_of (es ++ e ∷ []) (cs ++ more) (ss ++ others)
    ≡ calls_of es cs ss ++ kept e.place e.event more others ∷ []
calls_kept es e cs more ss others c s m o = grind (arith, calls_more, calls_same, taken_back)

-- and one that has neither counts nor starts
pub calls_joined : (es : List Entry) (e : Entry) (cs : List (List ℕ)) (ss : List Start) →
    counts_taken es ≡ length cs → starts_taken es ≡ length ss → 0 ≡ counts_in e.event →
    0 ≡ starts_in e.event →
    calls_of (es ++ e ∷ []) cs ss ≡ calls_of es cs ss ++ kept e.place e.event [] [] ∷ []
calls_joined es e cs ss c s m o =
    (λ k. calls_of (es ++ e ∷ []) (sym (append-nil cs) k) (sym (append-nil ss) k))
    ∙ calls_kept es e cs [] ss [] c s m o

pub length-calls : (es : List Entry) (cs : List (List ℕ)) (ss : List Start) →
    length (calls_of es cs ss) ≡ length es
length-calls [] cs ss = refl
length-calls (x ∷ es) cs ss =
    ap suc (length-calls es (drop (counts_in x.event) cs) (drop (starts_in x.event) ss))

pub taken-calls : (es : List Entry) (cs : List (List ℕ)) (ss : List Start) →
    counts_taken es ≡ length cs → starts_taken es ≡ length ss →
    (all_counts (calls_of es cs ss) ≡ length cs) × (all_starts (calls_of es cs ss) ≡ length ss)
taken-calls [] cs ss c s = (c, s)
taken-calls (x ∷ es) cs ss c s =
    let n = counts_in x.event in
    let m = starts_in x.event in
    let few = taken_parts counts_of x es cs (omega arith) in
    let short = taken_parts starts_of x es ss (omega arith) in
    let rest = calls_of es (drop n cs) (drop m ss) in
    let after = taken-calls es (drop n cs) (drop m ss)
    (omega (arith, sum_by-cons counts_of x es, length-drop n cs))
    (omega (arith, sum_by-cons starts_of x es, length-drop m ss)) in (
      omega (
        arith,
        few.0,
        after.0,
        length-drop n cs,
        length-take-le n cs few.0,
        sum_by-cons (λ (call : Kept). length call.counts) (call_of x cs ss) rest,
      ),
      omega (
        arith,
        sum_by-cons (λ (call : Kept). length call.starts) (call_of x cs ss) rest,
        length-take-le m ss short.0,
        length-drop m ss,
        short.0,
        after.1,
      ),
    )

-- What holds of the last entry's call alone, and of calls where it does without the first, holds of all.
by_last : (P : List Kept → Type 0) (es : List Entry) (n : ℕ) (e : Entry) (cs : List (List ℕ))
    (ss : List Start) → n ≡ length es - 1 → Some e ≡ slice_get es n →
    ((counts : List (List ℕ)) (starts : List Start) → P (kept e.place e.event counts starts ∷ [])) →
    ((call next : Kept) (calls : List Kept) → P (next ∷ calls) → P (call ∷ next ∷ calls)) →
    P (calls_of es cs ss)
by_last P [] n e cs ss len at alone more = absurd cc
by_last P (x ∷ []) zero e cs ss len at alone more = grind arith
by_last P (x ∷ []) (suc n) e cs ss len at alone more = absurd (omega arith)
by_last P (x ∷ y ∷ es) zero e cs ss len at alone more = absurd (omega arith)
by_last P (x ∷ y ∷ es) (suc n) e cs ss len at alone more =
    more (call_of x cs ss) _ _
    (by_last P (y ∷ es) n e (drop (counts_in x.event) cs) (drop (starts_in x.event) ss) (omega arith) at alone
    more)

-- so it holds of a hand's, whose list of entries was read
pub of_last : (P : List Kept → Type 0) (es : List Entry) (cs : List (List ℕ)) (ss : List Start)
    {e : Entry} {read : List Entry} {calls : List Kept} → calls_of es cs ss ≡ calls → read ≡ es →
    Some e ≡ slice_get read (length read - 1) →
    ((counts : List (List ℕ)) (starts : List Start) → P (kept e.place e.event counts starts ∷ [])) →
    ((call next : Kept) (calls : List Kept) → P (next ∷ calls) → P (call ∷ next ∷ calls)) → P calls
of_last P es cs ss {e = e} {read = read} are is at alone more =
    subst P are (by_last P es (length es - 1) e cs ss refl
    (subst (λ (l : List Entry). Some e ≡ slice_get l (length l - 1)) is at) alone more)

-- and what holds of no call, of a hand's whose list of entries is empty
pub of_none : (P : List Kept → Type 0) (es : List Entry) (cs : List (List ℕ)) (ss : List Start)
    {calls : List Kept} → calls_of es cs ss ≡ calls → es ≡ [] → P [] → P calls
of_none P es cs ss are none holds =
    subst P (ap (λ (l : List Entry). calls_of l cs ss) (sym none) ∙ are) holds

same_first : {X : Type 0} (x y : X) → x ∷ [] ≡ y ∷ [] → x ≡ y
same_first x y same = ap (λ xs. get_or xs 0 x) same

-- the element at an index, as a list of at most one
pub one_at : {X : Type 0} (xs : List X) (i : ℕ) → option_to_list (slice_get xs i) ≡ take 1 (drop i xs)
one_at [] zero = refl
one_at [] (suc i) = refl
one_at (x ∷ xs) zero = refl
one_at (x ∷ xs) (suc i) = one_at xs i

pub one_same : {X : Type 0} (a b : Option X) → option_to_list a ≡ option_to_list b → a ≡ b
one_same None None same = refl
one_same None (Some y) same = absurd cc
one_same (Some x) None same = absurd cc
one_same (Some x) (Some y) same = ap Some (same_first x y same)

-- a list without entries, and one with a last entry
pub no_entries : (es : List Entry) → length es ≡ 0 → es ≡ []
no_entries [] none = refl
no_entries (x ∷ es) none = absurd (omega arith)

pub entry_there : (es : List Entry) (i : ℕ) → i < length es → (e : Entry) × (slice_get es i ≡ Some e)
entry_there [] i lt = absurd (omega arith)
entry_there (x ∷ es) i lt = (get_or (x ∷ es) i x, slice_get-get_or (x ∷ es) i x lt)

-- a loop over entries, an entry on
pub taken_step : (f : Entry → ℕ) (es : List Entry) (i : ℕ) (e : Entry) → i < length es →
    e ≡ get_or es i e → sum_by f (take (i + 1) es) ≡ sum_by f (take i es) + f e
taken_step f es i e lt is =
    sum_by_more f es i e lt ∙ ap (λ (x : Entry). sum_by f (take i es) + f x) (sym is)

pub calls_step : (before : List Kept) (es : List Entry) (i : ℕ) (e : Entry) (cs : List (List ℕ))
    (ss : List Start) →
    i < length es → e ≡ get_or es i e →
    (before ++ calls_of (take i es) cs ss)
    ++ call_of e (drop (counts_taken (take i es)) cs) (drop (starts_taken (take i es)) ss) ∷ []
    ≡ before ++ calls_of (take (i + 1) es) cs ss
calls_step before es i e cs ss lt is = grind (arith, common_steps, append_assoc, take_more, calls_more)

-- a hand by its parts
abbrev pub hand_from : List Kept → ℕ → Limits → Bool → Bool → HandValue
hand_from calls workers room strange full = record {
  calls = calls;
  workers = workers;
  room = room;
  strange = strange;
  full = full;
}

-- the room of a hand, by its fields
pub room_is : {es : List Entry} {cs : List (List ℕ)} {ss : List Start} {room : Limits} {hand : HandValue}
    {workers : ℕ} {strange full : Bool} (c s : ℕ) →
    hand_from (calls_of es cs ss) workers room strange full ≡ hand →
    AreKept es cs ss room →
    (nat_lt (length es) room.events && nat_le (length cs + c) room.sweeps
    && nat_le (length ss + s) room.attempts)
    ≡ has_room hand c s
room_is {es = es} {cs = cs} {ss = ss} {room = room} c s view lists =
    grind (arith, taken-calls, nat_lt, length-calls, nat_le)

pub three_true : (a b c d e f : ℕ) → (nat_lt a b && nat_le c d && nat_le e f) ≡ true →
    (a < b) × (c ≤ d) × (e ≤ f)
three_true a b c d e f all = (grind (arith, nat_tests), grind (arith, nat_tests), grind (arith, nat_tests))

pub first_false : (a b c d e f : ℕ) → b ≤ a → false ≡ (nat_lt a b && nat_le c d && nat_le e f)
first_false a b c d e f le = grind (arith, nat_tests)

pub second_false : (a b c d e f : ℕ) → a < b → d < c → false ≡ (nat_lt a b && nat_le c d && nat_le e f)
second_false a b c d e f lt le = grind (arith, nat_tests)

-- more elements fit where they are within what is left
pub fits_rest : (l s r : ℕ) → l ≤ r → nat_le s (r - l) ≡ nat_le (l + s) r
fits_rest l s r le = grind (arith, nat_tests)

pub third_is : (a b c d e f : ℕ) → a < b → c ≤ d → nat_le e f ≡ (nat_lt a b && nat_le c d && nat_le e f)
third_is a b c d e f lt le = grind (arith, nat_tests)

-- a call more, within the room
taken_more : {X : Type 0} (f : Entry → ℕ) (es : List Entry) (e : Entry) (xs more : List X) →
    sum_by f es ≡ length xs → length more ≡ f e → sum_by f (es ++ e ∷ []) ≡ length (xs ++ more)
taken_more f es e xs more was is = omega (arith, sum_by_push f es e, length-append xs more)

pub kept_more : {es : List Entry} {cs : List (List ℕ)} {ss : List Start} {room : Limits} (e : Entry)
    (more : List (List ℕ)) (others : List Start) → length more ≡ counts_in e.event →
    length others ≡ starts_in e.event → IsPlace e.place →
    (length es < room.events) × (length cs + counts_in e.event ≤ room.sweeps)
    × (length ss + starts_in e.event ≤ room.attempts) →
    AreKept es cs ss room → AreKept (es ++ e ∷ []) (cs ++ more) (ss ++ others) room
kept_more {es = es} {cs = cs} {ss = ss} e more others m o place fits old =
    grind (arith, common_steps, All-push, taken_more, length-append)

pub kept_joined : {es : List Entry} {cs : List (List ℕ)} {ss : List Start} {room : Limits} (e : Entry) →
    0 ≡ counts_in e.event → 0 ≡ starts_in e.event → IsPlace e.place →
    (length es < room.events) × (length cs + counts_in e.event ≤ room.sweeps)
    × (length ss + starts_in e.event ≤ room.attempts) →
    AreKept es cs ss room → AreKept (es ++ e ∷ []) cs ss room
kept_joined {es = es} {cs = cs} {ss = ss} {room = room} e m o place fits old =
    subst (λ (l : List (List ℕ)). AreKept (es ++ e ∷ []) l ss room) (append-nil cs)
    (subst (λ (l : List Start). AreKept (es ++ e ∷ []) (cs ++ []) l room) (append-nil ss)
    (kept_more e [] [] m o place fits old))

-- the call at the place of an event
call_there : (log : LogValue) (place : ℕ) (event : Event) → event_at log.history place ≡ Some event →
    call_at log place ≡ kept place event (counts_at log event) (starts_at log event) ∷ []
call_there log place event at = grind arith

-- only with this event
event_in : (log : LogValue) (place : ℕ) (event : Event) (cs : List (List ℕ)) (ss : List Start)
    (found : Option Event) →
    option_map_or (λ event. kept place event (counts_at log event) (starts_at log event) ∷ []) found []
    ≡ kept place event cs ss ∷ [] → found ≡ Some event
event_in log place event cs ss None is = absurd cc
event_in log place event cs ss (Some e) is = ap (λ (call : Kept). Some call.event) (same_first _ _ is)

-- the counts, and the starts, of the first call
abbrev first_counts : List Kept → List (List ℕ)
first_counts [] = []
first_counts (call ∷ calls) = call.counts

abbrev first_starts : List Kept → List Start
first_starts [] = []
first_starts (call ∷ calls) = call.starts

-- A log has just a call at the place of an entry exactly if the entry's event stands there, with these counts
-- and starts.
pub has_call : (log : LogValue) (e : Entry) (cs : List (List ℕ)) (ss : List Start) →
    (call_at log e.place ≡ kept e.place e.event cs ss ∷ [])
    ↔ ((event_at log.history e.place ≡ Some e.event) × (counts_at log e.event ≡ cs)
    × (starts_at log e.event ≡ ss))
has_call log e cs ss = (
  λ is.
      (let at = event_in log e.place e.event cs ss (event_at log.history e.place) is in
      let same = sym (call_there log e.place e.event at) ∙ is in
      (at, ap first_counts same, ap first_starts same)),
  λ all. call_there log e.place e.event all.0 ∙ (λ k. kept e.place e.event (all.1 k) (all.2 k) ∷ []),
)

-- the calls of a hand, by its entries, and of others
pub length-all_calls : {hands others : List HandValue} {hand : HandValue} (es : List Entry)
    (cs : List (List ℕ)) (ss : List Start) →
    hands ≡ hand ∷ others → calls_of es cs ss ≡ hand.calls →
    length (all_calls hands) ≡ length es + length (all_calls others)
length-all_calls {others = others} {hand = hand} es cs ss is its = grind (arith, length-append, length-calls)

-- A hand with room for an event more stays as it is, and one without grows.
module _ (es : List Entry) (cs : List (List ℕ)) (ss : List Start) {room : Limits} {hand : HandValue}
    {workers : ℕ} {strange full : Bool}
    (view : hand_from (calls_of es cs ss) workers room strange full ≡ hand) where
  pub calls_long : length hand.calls ≡ length es
  calls_long = sym (ap (λ (h : HandValue). length h.calls) view) ∙ length-calls es cs ss

  pub placed_in : length es < room.events → hand ≡ with_place hand
  placed_in lt = grind (arith, nat_tests, length-calls)

  pub placed_anew : room.events ≤ length es →
      hand_from (calls_of es cs ss) workers (record room { events = grown room.events }) strange full
      ≡ with_place hand
  placed_anew le = grind (arith, nat_tests, length-calls)

  -- and then it has room
  pub place_left : AreKept es cs ss room → length es < room.events → has_room hand 0 0 ≡ true
  place_left lists lt =
      grind (arith, nat_tests, room_is 0 0 view lists, lists.few_counts, lists.few_starts)

pub grown_more : (events n : ℕ) → n ≤ events → n < 1048576 → n < grown events
grown_more events n le few = grind (arith, nat_tests)

-- more room for events keeps the lists within it
pub kept_within : {es : List Entry} {cs : List (List ℕ)} {ss : List Start} {room : Limits} (events : ℕ) →
    room.events ≤ events → AreKept es cs ss room → AreKept es cs ss (record room { events = events })
kept_within events le old = record {
  places = old.places;
  counts_are = old.counts_are;
  starts_are = old.starts_are;
  few_events = omega (arith, le, old.few_events);
  few_counts = old.few_counts;
  few_starts = old.few_starts;
}
