use Rattle.std.proofs.Common.{◌≡◌, ◌<◌, length, Some, sym, ap, ◌∙◌, arith}
use Rattle.std.specs.Prelude.{slice_get}
use Rattle.std.proofs.lemmas.List.{length-map}
use Rattle.master_state.specs.declared.events.Event.{Event}
use Rattle.compact_lists.specs.declared.entries.Entry.{Entry}
use Rattle.compact_lists.specs.Entries.{event_of}
use Rattle.compact_lists.specs.Lists.{EventsValue}
use Rattle.compact_lists.proofs.Reading.{read_at, same_if_whole}
use Rattle.compact_lists.proofs.events.EventList.is_same.Goals as goal

pub returns-then-is_whole : goal.returns-then-is_whole
returns-then-is_whole c =
    let list = c.self.inside in
    let other = c.other.inside in
    let a = c.index-entry.result.now in
    let b = c.index.result.now in
    let read : Entry → Event = event_of list.sets.items list.totals.items in
    let found : Entry → Event = event_of other.sets.items other.totals.items in
    let within : c.args.index < length list.entries.items =
    omega (
      arith,
      c.requires.here,
      ap (λ (v : EventsValue). length v.items) c.self.view_is,
      length-map list.entries.items read,
    ) in
    let inside : c.args.there < length other.entries.items =
    omega (
      arith,
      c.requires.there,
      ap (λ (v : EventsValue). length v.items) c.other.view_is,
      length-map other.entries.items found,
    ) in
    let here : slice_get c.args.self.now.items c.args.index ≡ Some (read a) =
    ap (λ (v : EventsValue). slice_get v.items c.args.index) (sym c.self.view_is)
    ∙ read_at read list.entries.items c.args.index a within c.index-entry.ensures in
    let there : slice_get c.args.other.now.items c.args.there ≡ Some (found b) =
    ap (λ (v : EventsValue). slice_get v.items c.args.there) (sym c.other.view_is)
    ∙ read_at found other.entries.items c.args.there b inside c.index.ensures in
    let both = same_if_whole a b list.sets.items other.sets.items list.totals.items other.totals.items
    (sym c.is_whole.ensures ∙ c.if-is_whole.true) in (
      λ t. here ∙ ap Some (both.0 (c.is_entry.ensures.0 t)) ∙ sym there,
      λ is. c.is_entry.ensures.1 (both.1 (let e : Some (read a) ≡ Some (found b) = sym here ∙ is ∙ there in cc)),
    )
