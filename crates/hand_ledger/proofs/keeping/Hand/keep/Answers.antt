use Rattle.std.proofs.Common.{◌≡◌, ◌+◌, ◌<◌, ◌≤◌, length, [], ◌∷◌, ◌++◌, ap, ◌∙◌, arith}
use Rattle.std.specs.Prelude.{map, option_to_list}
use Rattle.std.proofs.lemmas.List.{length-append, length-map}
use Rattle.hand_ledger.specs.Hands.{HandValue, kept, counts_in, starts_in, with_call}
use Rattle.hand_ledger.specs.declared.entries.Entry.{Entry}
use Rattle.hand_ledger.specs.Inside.{calls_of}
use Rattle.hand_ledger.proofs.Calls.{three_true, room_is, kept_more, calls_kept, hand_from}
use Rattle.hand_ledger.proofs.keeping.Hand.keep.Given.{Over}
use Rattle.hand_ledger.proofs.keeping.Hand.keep.Goals.{After-add}
use Rattle.hand_ledger.proofs.keeping.Hand.keep.Goals as goal

fits : (g : Over) (c : After-add g) →
    (length c.self.inside.entries.items < c.self.inside.room.events)
    × (length c.self.inside.counts.items + counts_in c.args.event.now ≤ c.self.inside.room.sweeps)
    × (length c.self.inside.starts.items + starts_in c.args.event.now ≤ c.self.inside.room.attempts)
fits g c =
    three_true _ _ _ _ _ _
    (room_is (counts_in c.args.event.now) (starts_in c.args.event.now) c.self.view_is c.self.invariant.2
    ∙ c.requires.room)

pub push-requires-clause-room : goal.push-requires-clause-room
push-requires-clause-room g c =
    let all = fits g (goal.at.push-requires-clause-room g c).After-add in
    omega (arith, all.0, c.self.invariant.3)

pub add_counts-requires-clause-room : goal.add_counts-requires-clause-room
add_counts-requires-clause-room g c =
    let all = fits g (goal.at.add_counts-requires-clause-room g c).After-add in
    omega (arith, all.1, c.self.invariant.4, c.requires.counts)

pub add_all-requires : goal.add_all-requires
add_all-requires g c =
    let all = fits g (goal.at.add_all-requires g c).After-add in
    omega (arith, all.2, c.self.invariant.5, c.self.inside.starts.ok.0, c.requires.starts)

pub invariant_of-self : goal.invariant_of-self
invariant_of-self g c =
    let h = c.self.inside in
    let e : Entry = record { place = c.args.place; event = c.args.event.now } in
    let inv = c.self.invariant in (
      c.add.ensures.parts ∙ inv.0,
      omega (
        arith,
        c.add.ensures.amount,
        inv.1,
        ap length c.push.ensures.items,
        length-append h.entries.items (e ∷ []),
      ),
      rw (c.push.ensures.items, c.add_counts.ensures.items, c.add_all.ensures.items)
          (kept_more e (map (λ own. own.now) (option_to_list c.args.counts)) c.args.starts.now
          (length-map (option_to_list c.args.counts) (λ own. own.now) ∙ c.requires.counts) c.requires.starts
          c.requires.place
          (fits g (goal.at.invariant_of-self g c).After-add) inv.2),
      omega (arith, c.push.ensures.room, inv.3),
      omega (arith, c.add_counts.ensures.room, inv.4),
      omega (arith, c.add_all.ensures.capacity, inv.5),
    )

pub returns-clause-value : goal.returns-clause-value
returns-clause-value g c =
    let h = c.self.inside in
    let inv = c.self.invariant in
    let e : Entry = record { place = c.args.place; event = c.args.event.now } in
    let own = map (λ own. own.now) (option_to_list c.args.counts) in
    let made : calls_of c.push.new.self.items c.add_counts.new.list.items c.add_all.new.list.items
    ≡ calls_of h.entries.items h.counts.items h.starts.items
    ++ kept c.args.place c.args.event.now own c.args.starts.now ∷ [] =
    (λ j. calls_of (c.push.ensures.items j) (c.add_counts.ensures.items j) (c.add_all.ensures.items j))
    ∙ calls_kept h.entries.items e h.counts.items own h.starts.items c.args.starts.now inv.2.counts_are
    inv.2.starts_are (length-map (option_to_list c.args.counts) (λ own. own.now) ∙ c.requires.counts)
    c.requires.starts in
    (λ k. hand_from (made k) (c.add_counts.ensures.workers k) h.room h.strange h.full)
    ∙ ap (λ (v : HandValue). with_call v
    (kept c.args.place c.args.event.now own c.args.starts.now)) c.self.view_is
