use Rattle.std.proofs.Common.{◌≡◌, ◌+◌, ◌<◌, ◌≤◌, length, [], ◌∷◌, ◌++◌, ap, refl, ◌∙◌, arith}
use Rattle.std.proofs.lemmas.List.{length-append}
use Rattle.master_state.specs.declared.events.Event.TheVariants as events
use Rattle.hand_ledger.specs.Hands.{HandValue, kept, with_call}
use Rattle.hand_ledger.specs.declared.entries.Entry.{Entry}
use Rattle.hand_ledger.specs.Inside.{calls_of}
use Rattle.hand_ledger.proofs.Calls.{three_true, room_is, kept_joined, calls_joined, hand_from}
use Rattle.hand_ledger.proofs.keeping.Hand.keep_join.Given.{Over}
use Rattle.hand_ledger.proofs.keeping.Hand.keep_join.Goals.{After-add}
use Rattle.hand_ledger.proofs.keeping.Hand.keep_join.Goals as goal

fits : (g : Over) (c : After-add g) →
    (length c.self.inside.entries.items < c.self.inside.room.events)
    × (length c.self.inside.counts.items + 0 ≤ c.self.inside.room.sweeps)
    × (length c.self.inside.starts.items + 0 ≤ c.self.inside.room.attempts)
fits g c = three_true _ _ _ _ _ _ (room_is 0 0 c.self.view_is c.self.invariant.2 ∙ c.requires.room)

pub push_join-requires : goal.push_join-requires
push_join-requires g c =
    let all = fits g (goal.at.push_join-requires g c).After-add in omega (arith, all.0, c.self.invariant.3)

pub invariant_of-self : goal.invariant_of-self
invariant_of-self g c =
    let h = c.self.inside in
    let e : Entry = record { place = c.args.place; event = events.Join c.args.worker c.args.set } in
    let inv = c.self.invariant in (
      c.add.ensures.parts ∙ inv.0,
      omega (
        arith,
        c.add.ensures.amount,
        inv.1,
        ap length c.push_join.ensures.items,
        length-append h.entries.items (e ∷ []),
      ),
      rw c.push_join.ensures.items (kept_joined e refl refl c.requires.place
          (fits g (goal.at.invariant_of-self g c).After-add) inv.2),
      omega (arith, c.push_join.ensures.room, inv.3),
      inv.4,
      inv.5,
    )

pub returns-clause-value : goal.returns-clause-value
returns-clause-value g c =
    let h = c.self.inside in
    let inv = c.self.invariant in
    let e : Entry = record { place = c.args.place; event = events.Join c.args.worker c.args.set } in
    let made : calls_of c.push_join.new.self.items h.counts.items h.starts.items
    ≡ calls_of h.entries.items h.counts.items h.starts.items ++ kept e.place e.event [] [] ∷ [] =
    ap (λ es. calls_of es h.counts.items h.starts.items) c.push_join.ensures.items
    ∙ calls_joined h.entries.items e h.counts.items h.starts.items inv.2.counts_are inv.2.starts_are refl refl
    in
    (λ k. hand_from (made k) h.counts.workers h.room h.strange h.full)
    ∙ ap (λ (v : HandValue). with_call v (kept e.place e.event [] [])) c.self.view_is
