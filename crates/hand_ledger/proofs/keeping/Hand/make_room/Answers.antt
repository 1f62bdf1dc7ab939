use Rattle.std.proofs.Common.{◌≡◌, ◌<◌, List, length, ap, refl, sym, subst, ◌∙◌, arith}
use Rattle.hand_ledger.specs.declared.entries.Entry.{Entry}
use Rattle.hand_ledger.specs.Entries.{EntriesValue}
use Rattle.hand_ledger.specs.Hands.{grown}
use Rattle.hand_ledger.specs.Inside.{AreKept, calls_of}
use Rattle.hand_ledger.proofs.Calls.{calls_long, grown_more, hand_from, kept_within, place_left, placed_anew}
use Rattle.hand_ledger.proofs.Calls.{placed_in}
use Rattle.hand_ledger.proofs.keeping.Hand.make_room.Goals as goal

pub returns-then-len-self-clause-ok : goal.returns-then-len-self-clause-ok
returns-then-len-self-clause-ok g c =
    let h = c.self.inside in
    placed_in h.entries.items h.counts.items h.starts.items c.self.view_is
    (omega (arith, c.if-len-self.true, c.len.ensures))

pub returns-then-len-self-clause-place : goal.returns-then-len-self-clause-place
returns-then-len-self-clause-place g c =
    let h = c.self.inside in
    λ few.
    place_left h.entries.items h.counts.items h.starts.items c.self.view_is c.self.invariant.2
    (omega (arith, c.if-len-self.true, c.len.ensures))

pub make_room-requires : goal.make_room-requires
make_room-requires g c = omega (arith, c.self.invariant.3, c.grown-events.ensures.more)

pub returns-clause-ok : goal.returns-clause-ok
returns-clause-ok g c =
    let h = c.self.inside in
    let made = ap (λ (e : EntriesValue). e.items) c.in_ok-make_room.ensures.ok in
    (λ k. hand_from (calls_of (made k) h.counts.items h.starts.items) h.counts.workers
    (record h.room { events = c.grown-events.ensures.value k }) h.strange h.full)
    ∙ placed_anew h.entries.items h.counts.items h.starts.items c.self.view_is
    (omega (arith, c.if-len-self.false, c.len.ensures))

pub returns-clause-place : goal.returns-clause-place
returns-clause-place g c =
    let h = c.self.inside in
    let lists = c.self.invariant.2 in
    let events = c.grown-events.result in
    let made = ap (λ (e : EntriesValue). e.items) c.in_ok-make_room.ensures.ok in
    λ few.
    (let long = calls_long h.entries.items h.counts.items h.starts.items c.self.view_is in
    let less : length h.entries.items < grown h.room.events =
    grown_more h.room.events (length h.entries.items) lists.few_events (omega (arith, few, long)) in
    let room = record h.room { events = events } in
    place_left c.make_room.new.self.items h.counts.items h.starts.items
    {room = room} {workers = h.counts.workers} {strange = h.strange} {full = h.full} refl
    (subst (λ (es : List Entry). AreKept es h.counts.items h.starts.items room) (sym made)
    (kept_within events c.grown-events.ensures.more lists))
    (omega (arith, less, ap length made, c.grown-events.ensures.value)))
