use Rattle.std.proofs.Common.{◌≡◌, ◌∙◌, ◌+◌, ◌++◌, ℕ, List, Some, [], ◌∷◌, ap, arith, drop, slice_get, subst, sym}
use Rattle.std.proofs.Common.{take}
use Rattle.std.specs.Prelude.{fold}
use Rattle.std.proofs.lemmas.Grind.{fold-append}
use Rattle.std.proofs.lemmas.List.{drop_more, take_more}
use Rattle.std.proofs.lemmas.Option.{get_or_from_slice_get, slice_get_within}
use Rattle.master_state.specs.declared.events.Event.{Event}
use Rattle.report_lines.specs.declared.tables.Tables.{Tables}
use Rattle.report_lines.specs.Past.{MayAllCome, replayed}
use Rattle.report_lines.proofs.replaying.go_on.Goals as goal

left_from : (history : List Event) (i : ℕ) (event : Event) → slice_get history i ≡ Some event →
    drop i history ≡ event ∷ drop (i + 1) history
left_from history i event at =
    drop_more history i event (slice_get_within history i event at)
    ∙ ap (λ (e : Event). e ∷ drop (i + 1) history) (get_or_from_slice_get history i event event at)

taken_to : (history : List Event) (i : ℕ) (event : Event) → slice_get history i ≡ Some event →
    take (i + 1) history ≡ take i history ++ event ∷ []
taken_to history i event at =
    take_more history i event (slice_get_within history i event at)
    ∙ ap (λ (e : Event). take i history ++ e ∷ []) (get_or_from_slice_get history i event event at)

pub replay-requires : goal.replay-requires
replay-requires c =
    let story = c.args.story.now in
    let next = left_from story.history.items c.loop-index.index c.at-event.result c.at-event.ensures in
    (subst (MayAllCome story.tree story.limit story.sweeps.items c.loop-index.tables) next
    c.loop-index.invariant.may).1

pub loop-index-preserved : goal.loop-index-preserved
loop-index-preserved c =
    let story = c.args.story.now in
    let history = story.history.items in
    let sweeps = story.sweeps.items in
    let i = c.loop-index.index in
    let event = c.at-event.result in
    let may = subst (MayAllCome story.tree story.limit sweeps c.loop-index.tables)
    (left_from history i event c.at-event.ensures) c.loop-index.invariant.may in
    record {
      within = omega (arith, c.loop-index-test.true, c.min-end.ensures);
      tables = λ opening before.
          c.replay.ensures
          ∙ ap (λ (t : Tables). replayed sweeps t event) (c.loop-index.invariant.tables opening before)
          ∙ sym (ap (fold (replayed sweeps) opening) (taken_to history i event c.at-event.ensures)
          ∙ fold-append (replayed sweeps) opening (take i history) (event ∷ []));
      may = subst (λ (t : Tables). MayAllCome story.tree story.limit sweeps t (drop (i + 1) history))
          (sym c.replay.ensures) may.2;
    }
