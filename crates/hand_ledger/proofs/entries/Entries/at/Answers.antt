use Rattle.std.proofs.Common.{◌<◌, length, sym, ap, ◌∙◌, arith}
use Rattle.std.specs.Prelude.{slice_get}
use Rattle.hand_ledger.specs.Entries.{EntriesValue}
use Rattle.hand_ledger.proofs.Entering.{entry_at, sizes_are}
use Rattle.hand_ledger.proofs.entries.Entries.at.Goals as goal

pub index-requires : goal.index-requires
index-requires c =
    let sizes = sizes_are _ _ _ _ c.self.view_is c.self.invariant.0 in
    omega (arith, c.requires, sizes.places, c.self.inside.places.ok.0)

pub at-requires : goal.at-requires
at-requires c =
    let sizes = sizes_are _ _ _ _ c.self.view_is c.self.invariant.0 in omega (arith, c.requires, sizes.events)

pub returns : goal.returns
returns c =
    let e = c.self.inside in
    let sizes = sizes_are _ _ _ _ c.self.view_is c.self.invariant.0 in
    let lt : c.args.index < length e.places.items = omega (arith, c.requires, sizes.places) in
    ap (λ (v : EntriesValue). slice_get v.items c.args.index) (sym c.self.view_is)
    ∙ entry_at e.places.items e.events.items c.args.index _ _ lt c.index.ensures c.at.ensures
