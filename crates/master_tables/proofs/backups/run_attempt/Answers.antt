use Rattle.master_tables.specs.Entries.{entry_with}
use Rattle.master_tables.proofs.Together.{updated_here}
use Rattle.master_tables.proofs.backups.run_attempt.Goals as goal

pub returns : goal.returns
returns c =
    updated_here (entry_with c.args.attempt) c.args.entries.now.items c.index-place.ensures.value
    c.index.ensures c.with_attempt.ensures c.requires
