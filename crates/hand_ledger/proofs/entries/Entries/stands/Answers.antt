use Rattle.std.proofs.Common.{◌≤◌, ◌<◌, length, sym, ap, ◌∙◌, arith}
use Rattle.hand_ledger.specs.Settling.{event_at}
use Rattle.hand_ledger.proofs.Entering.{parts_read, sizes_are, stands_at, stands_at_zero, stands_nowhere}
use Rattle.hand_ledger.proofs.entries.Entries.stands.Goals as goal

pub index-requires : goal.index-requires
index-requires c =
    let sizes = sizes_are _ _ _ _ c.self.view_is c.self.invariant.0 in
    omega (arith, c.requires, sizes.places, c.self.inside.places.ok.0)

pub returns-then-place-eq0 : goal.returns-then-place-eq0
returns-then-place-eq0 c entry at =
    let e = c.self.inside in
    let parts = parts_read e.places.items e.events.items c.args.index c.index.result.now entry c.self.view_is
    c.index.ensures at in (
      λ t. absurd cc,
      λ is. absurd (stands_at_zero c.args.history.now.items entry.place entry.event
          (sym parts.0 ∙ c.if-place-eq0.true) is),
    )

pub returns-then-len-place : goal.returns-then-len-place
returns-then-len-place c entry at =
    let e = c.self.inside in
    let history = c.args.history.now.items in
    let parts = parts_read e.places.items e.events.items c.args.index c.index.result.now entry c.self.view_is
    c.index.ensures at in
    let past : length history < entry.place =
    omega (arith, c.if-len-place.true, c.len.ensures.count, parts.0) in
    (λ t. absurd cc, λ is. absurd (stands_nowhere history entry.place entry.event past is))

pub is_same-requires-clause-here : goal.is_same-requires-clause-here
is_same-requires-clause-here c =
    let sizes = sizes_are _ _ _ _ c.self.view_is c.self.invariant.0 in omega (arith, c.requires, sizes.events)

pub returns : goal.returns
returns c entry at =
    let e = c.self.inside in
    let history = c.args.history.now.items in
    let place = c.index.result.now in
    let parts = parts_read e.places.items e.events.items c.args.index place entry c.self.view_is
    c.index.ensures at in
    let some : 1 ≤ place = omega (arith, c.if-place-eq0.false) in
    let both = stands_at history e.events.items c.args.index place entry.event parts.1 some in
    let moved = ap (event_at history) parts.0 in (
      λ t. sym moved ∙ both.0 (c.is_same.ensures.0 t),
      λ s. c.is_same.ensures.1 (both.1 (moved ∙ s)),
    )
