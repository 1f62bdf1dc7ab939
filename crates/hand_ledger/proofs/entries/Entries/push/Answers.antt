use Rattle.std.proofs.Common.{[], ◌∷◌, ◌++◌, ap, ◌∙◌, arith}
use Rattle.hand_ledger.specs.Entries.{EntriesValue, entries_from}
use Rattle.hand_ledger.proofs.Entering.{entries_push, entry, sizes_are}
use Rattle.hand_ledger.proofs.entries.Entries.push.Goals as goal

pub push_reserved-requires : goal.push_reserved-requires
push_reserved-requires c =
    let sizes = sizes_are _ _ _ _ c.self.view_is c.self.invariant.0 in
    omega (arith, c.requires.room, sizes.places, sizes.room_is, c.self.invariant.1, c.self.inside.places.ok.0)

pub push-requires-clause-room : goal.push-requires-clause-room
push-requires-clause-room c =
    let sizes = sizes_are _ _ _ _ c.self.view_is c.self.invariant.0 in
    omega (arith, c.requires.room, sizes.events, sizes.room_is)

pub returns-clause-items : goal.returns-clause-items
returns-clause-items c =
    let e = c.self.inside in
    (λ k. entries_from (c.push_reserved.ensures.items k) (c.push.ensures.items k))
    ∙ entries_push e.places.items e.events.items c.args.place c.args.event.now c.self.invariant.0
    ∙ ap (λ (v : EntriesValue). v.items ++ entry c.args.place c.args.event.now ∷ []) c.self.view_is
