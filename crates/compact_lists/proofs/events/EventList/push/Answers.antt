use Rattle.std.proofs.Common.{◌≡◌, [], ◌∷◌, ◌++◌, length, length-append, map, ap, ◌∙◌, arith}
use Rattle.std.proofs.lemmas.Grind.{common_steps}
use Rattle.std.proofs.lemmas.List.{map-append}
use Rattle.master_state.specs.declared.events.Event.{Event}
use Rattle.compact_lists.specs.declared.entries.Entry.{Entry}
use Rattle.compact_lists.specs.Entries.{event_of}
use Rattle.compact_lists.specs.Lists.{EventsValue}
use Rattle.compact_lists.proofs.Reading.{events_same, goes_on_same, within_pushed}
use Rattle.compact_lists.proofs.events.EventList.push.Goals as goal

pub invariant_of-self : goal.invariant_of-self
invariant_of-self c =
    let made = c.entry_of-entry in
    let more = made.ensures.totals in
    let pushed = ap length c.push_reserved.ensures.items
    ∙ length-append c.self.inside.entries.items (made.result ∷ []) in
    record {
      within = within_pushed c.self.inside.entries.items _ made.result (length c.self.inside.sets.items)
          (length c.self.inside.totals.items) (length made.new.totals.items) c.push_reserved.ensures.items
          more.no_less c.self.invariant.within
          (made.ensures.within (length c.self.inside.sets.items));
      few = grind (arith, common_steps, pushed);
      few_sets = omega (arith, pushed, c.self.invariant.few_sets);
      few_totals = omega (arith, pushed, more.one_more, c.self.invariant.few_totals);
      events = grind (arith, common_steps);
      sets = grind (arith, common_steps);
      totals = grind (arith, common_steps);
    }

pub returns-clause-items : goal.returns-clause-items
returns-clause-items c =
    let l = c.self.inside in
    let made = c.entry_of-entry in
    let sets = l.sets.items in
    let read : Entry → Event = event_of sets made.new.totals.items in
    let older : map read l.entries.items ≡ map (event_of sets l.totals.items) l.entries.items =
    events_same l.entries.items sets sets l.totals.items made.new.totals.items
    (goes_on_same sets) made.ensures.totals c.self.invariant.within in
    ap (map read) c.push_reserved.ensures.items ∙ map-append read l.entries.items (made.result ∷ [])
    ∙ (λ k. older k ++ made.ensures.event sets k ∷ [])
    ∙ ap (λ (v : EventsValue). v.items ++ c.args.event.now ∷ []) c.self.view_is
