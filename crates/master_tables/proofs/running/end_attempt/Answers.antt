use Rattle.std.proofs.Common.{sym}
use Rattle.master_state.specs.Tests.{is_numbered}
use Rattle.master_tables.specs.Entries.{entry_without}
use Rattle.master_tables.proofs.Showing.{updated-kept}
use Rattle.master_tables.proofs.Together.{updated_here}
use Rattle.master_tables.proofs.running.end_attempt.Goals as goal

pub returns-in-Some : goal.returns-in-Some
returns-in-Some c =
    updated_here (entry_without (is_numbered c.args.attempt)) c.args.entries.now.items
    c.index-place.ensures.value c.index.ensures c.in-Some.ensures c.requires

pub returns-in_default : goal.returns-in_default
returns-in_default c =
    sym (updated-kept (entry_without (is_numbered c.args.attempt)) c.args.entries.now.items c.args.split
    c.index.result.now (rw (sym c.index-place.ensures.value) c.index.ensures) c.in_default.ensures)
