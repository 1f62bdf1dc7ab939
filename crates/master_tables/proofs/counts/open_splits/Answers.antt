use Rattle.std.proofs.Common.{Bool, ◌<◌, not, map, length, sym, ap, ◌∙◌, arith}
use Rattle.std.proofs.lemmas.List.{length-map}
use Rattle.std.proofs.lemmas.List.Sums.{count_by_more_yes, count_by_more_no}
use Rattle.master_state.specs.declared.states.SplitState.{SplitState}
use Rattle.master_state.specs.Tests.{is_done}
use Rattle.master_tables.specs.Entries.{shown_as}
use Rattle.master_tables.proofs.Counting.{changed_at}
use Rattle.master_tables.proofs.counts.open_splits.Goals as goal
use Rattle.master_tables.proofs.counts.open_splits.Goals.{then-not-is_done, else-not-is_done}

pub loop-entry-preserved : goal.loop-entry-preserved
loop-entry-preserved c =
    let entries = c.args.entries.now in
    let i = c.loop-entry.entry-index in
    let entry = c.entry-item.result in
    let here : i < length (map shown_as entries) =
    omega (arith, c.loop-entry-test.true, length-map entries shown_as) in
    let at = changed_at shown_as entries i entry c.loop-entry-test.true c.entry-item.is in
    let waits : SplitState → Bool = λ split. not (is_done split) in
    let is = ap waits (sym at) ∙ ap not (sym c.is_done.ensures) in
    elim c.if-not-is_done.branch [
      | then-not-is_done w ↦
          let more = count_by_more_yes waits _ i (shown_as entry) here (is ∙ ap not w.if-not-is_done.true) in
          record {
            count = omega (arith, w.count-is, more, c.loop-entry.invariant.count);
            few = omega (arith, w.count-is, c.loop-entry.invariant.few);
          }
      | else-not-is_done w ↦
          let more = count_by_more_no waits _ i (shown_as entry) here (is ∙ ap not w.if-not-is_done.false) in
          record {
            count = omega (arith, w.count-is, more, c.loop-entry.invariant.count);
            few = omega (arith, w.count-is, c.loop-entry.invariant.few);
          }
    ]
