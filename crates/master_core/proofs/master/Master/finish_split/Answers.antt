use Rattle.std.proofs.Common.{◌≡◌, ◌∙◌, refl, sym}
use Rattle.master_state.specs.Refusals.{MapDone}
use Rattle.master_state.specs.Tests.{split_at}
use Rattle.master_tables.specs.declared.entries.SplitEntry.TheVariants.{Done}
use Rattle.master_tables.specs.Entries.{shown_as}
use Rattle.master_core.specs.Inside.{setup_of, state_of}
use Rattle.master_core.proofs.Accepting.{Follows, follows, with_tables}
use Rattle.master_core.proofs.Found.{entry_at, text_known}
use Rattle.master_state.proofs.BarRoom.{bars_given}
use Rattle.master_core.proofs.Lining.{lined_given}
use Rattle.master_core.proofs.Touching.{flagged_updated}
use Rattle.master_core.proofs.Completing.{done_is, made_done, map_refusal, of_split, shown-done_at}
use Rattle.master_core.proofs.Completing.{split_taken}
use Rattle.master_core.proofs.Ended.{numbered, split_runs_in}
use Rattle.master_core.proofs.master.Master.finish_split.Goals.{After-index-entry}
use Rattle.master_core.proofs.master.Master.finish_split.Goals as goal

pub is_wrong_map-requires : goal.is_wrong_map-requires
is_wrong_map-requires c = text_known c.self.invariant c.self.view_is c.args.attempt _ _ c.requires.0.start

pub returns-then-is_wrong_map-clause-answer : goal.returns-then-is_wrong_map-clause-answer
returns-then-is_wrong_map-clause-answer c =
    let refused = map_refusal c.self.invariant c.self.view_is c.args.made c.requires c.is_wrong_map.ensures
    c.if-is_wrong_map.true refl in
    record { refused = refused; same = refl }

pub returns-then-has_no_place-clause-answer : goal.returns-then-has_no_place-clause-answer
returns-then-has_no_place-clause-answer c =
    let refused = map_refusal c.self.invariant c.self.view_is c.args.made c.requires c.is_wrong_map.ensures
    c.if-is_wrong_map.false (sym c.has_no_place.ensures ∙ c.if-has_no_place.true) in
    record { refused = refused; same = refl }

shows : (c : After-index-entry) →
    shown_as c.index-entry.result.now ≡ split_at (state_of c.self.inside) c.args.found.split
shows c =
    entry_at c.self.invariant c.self.view_is c.args.attempt _ _ c.requires.0.start c.index.ensures.value
    c.index-entry.ensures

pub give_slots-requires : goal.give_slots-requires
give_slots-requires c =
    rw (shows (goal.at.give_slots-requires c).After-index-entry)
    (split_taken (setup_of c.self.inside) (state_of c.self.inside) c.args.found.split
    c.self.invariant.kept.tidy)

after : (c : goal.After-record_event) →
    Follows (with_tables (record c.self.inside { touched = c.touch_running.new.self }) c.give_slots.new.workers
    c.self.inside.holders
    c.finish_split.new.entries c.self.inside.parts c.record_event.new.history) c.args.self.now (MapDone
    c.args.attempt c.args.made) c.record_event.result
after c =
    let old = c.self.inside in
    let split = c.args.found.split in
    let one = numbered c.args.attempt c.args.found.worker in
    let right = of_split (setup_of old) split c.args.made
    (sym (c.is_wrong_map.ensures (setup_of old) refl) ∙ c.if-is_wrong_map.false) in
    follows (MapDone c.args.attempt c.args.made) c.self.invariant c.self.view_is tt
    (map_refusal c.self.invariant c.self.view_is c.args.made c.requires c.is_wrong_map.ensures
    c.if-is_wrong_map.false (sym c.has_no_place.ensures ∙ c.if-has_no_place.false))
    (rw c.record_event.ensures.capacity refl) c.record_event.ensures.items c.record_event.ensures.place
    (done_is c.self.invariant.kept.tidy (split_runs_in c.self.invariant c.self.view_is c.requires.0)
    ∙ rw (
      c.give_slots.ensures,
      shows (goal.at.returns-clause-answer c).After-index-entry,
      c.finish_split.ensures,
      shown-done_at one c.args.made old.splits.items split,
    ) refl) refl
    (rw c.finish_split.ensures (made_done (setup_of old) one c.args.made old.splits.items split right
    c.self.invariant.made)) (
      rw (c.give_slots.ensures, bars_given old.workers _) c.self.invariant.near.0,
      rw c.finish_split.ensures (flagged_updated old.engine old.touched c.touch_running.new.self (λ _. Done one c.args.made) old.splits.items split
          c.touch_running.ensures.split c.touch_running.ensures.before c.self.invariant.near.1),
      rw c.give_slots.ensures (lined_given old.engine old.touched c.touch_running.new.self old.workers _
          c.touch_running.ensures.workers c.touch_running.ensures.before c.self.invariant.near.2),
    )

pub invariant_of-self : goal.invariant_of-self
invariant_of-self c = (after c).master

pub returns-clause-answer : goal.returns-clause-answer
returns-clause-answer c = (after c).accepted
