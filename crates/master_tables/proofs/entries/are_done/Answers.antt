use Rattle.std.proofs.Common.{sym, ◌∙◌}
use Rattle.master_state.specs.Tests.{is_done}
use Rattle.master_tables.specs.Entries.{shown_as}
use Rattle.master_tables.proofs.Counting.{all_more, not_all}
use Rattle.master_tables.proofs.entries.are_done.Goals as goal

pub returns-then-not-is_done : goal.returns-then-not-is_done
returns-then-not-is_done c =
    sym (not_all shown_as is_done c.args.entries.now c.loop-entry.entry-index c.entry-item.result
    c.loop-entry-test.true c.entry-item.is (sym c.is_done.ensures ∙ c.if-not-is_done.true))

pub loop-entry-preserved : goal.loop-entry-preserved
loop-entry-preserved c =
    all_more shown_as is_done c.args.entries.now c.loop-entry.entry-index c.entry-item.result
    c.loop-entry-test.true c.entry-item.is c.loop-entry.invariant (sym c.is_done.ensures
    ∙ c.if-not-is_done.false)
