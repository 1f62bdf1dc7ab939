use Rattle.std.proofs.Common.{map, arith}
use Rattle.std.proofs.lemmas.List.{length-map}
use Rattle.master_state.specs.Tests.{attempts_of}
use Rattle.master_tables.specs.Entries.{shown_as}
use Rattle.master_tables.proofs.Counting.{length_more, changed_at}
use Rattle.master_tables.proofs.counts.running_maps.Goals as goal

pub loop-entry-preserved : goal.loop-entry-preserved
loop-entry-preserved c =
    let entries = c.args.entries.now in
    let i = c.loop-entry.entry-index in
    let entry = c.entry-item.result in
    let more = length_more attempts_of (map shown_as entries) i (shown_as entry)
    (omega (arith, c.loop-entry-test.true, length-map entries shown_as))
    (changed_at shown_as entries i entry c.loop-entry-test.true c.entry-item.is) in
    record {
      count = omega (arith, more, c.loop-entry.invariant.count, c.attempts_in-count.ensures.count);
      few = omega (arith, c.loop-entry.invariant.few, c.attempts_in-count.ensures.most);
    }
