use Rattle.std.proofs.Common.{◌≡◌, [], ◌∷◌, ◌++◌, map, ap, ◌∙◌}
use Rattle.std.proofs.lemmas.List.{map-append}
use Rattle.master_state.specs.declared.events.Event.{Event}
use Rattle.master_state.specs.declared.events.Event.TheVariants as event
use Rattle.compact_lists.specs.declared.entries.Entry.{Entry}
use Rattle.compact_lists.specs.declared.entries.Entry.TheVariants.{Join}
use Rattle.compact_lists.specs.Entries.{event_of}
use Rattle.compact_lists.specs.Lists.{EventsValue}
use Rattle.compact_lists.proofs.Reading.{events_same, goes_on_more, goes_on_same, join_read}
use Rattle.compact_lists.proofs.events.EventList.push_join.Goals as goal

pub returns-clause-items : goal.returns-clause-items
returns-clause-items c =
    let l = c.self.inside in
    let added = c.add-place in
    let sets = added.new.list.items in
    let totals = l.totals.items in
    let read : Entry → Event = event_of sets totals in
    let older : map read l.entries.items ≡ map (event_of l.sets.items totals) l.entries.items =
    events_same l.entries.items l.sets.items sets totals totals
    (goes_on_more l.sets.items sets c.args.set added.ensures.items) (goes_on_same totals)
    c.self.invariant.within in
    let entry : Entry = Join c.args.worker added.result in
    let last : read entry ≡ event.Join c.args.worker c.args.set =
    ap (event.Join c.args.worker)
    (join_read l.sets.items sets c.args.set added.result added.ensures.items added.ensures.place) in
    ap (map read) c.push_reserved.ensures.items ∙ map-append read l.entries.items (entry ∷ [])
    ∙ (λ k. older k ++ last k ∷ [])
    ∙ ap (λ (v : EventsValue). v.items ++ event.Join c.args.worker c.args.set ∷ []) c.self.view_is
