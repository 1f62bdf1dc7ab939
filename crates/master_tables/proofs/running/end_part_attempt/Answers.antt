use Rattle.master_state.specs.Tests.{is_numbered}
use Rattle.master_state.specs.Changes.{part_without}
use Rattle.master_tables.proofs.Together.{updated_here}
use Rattle.master_tables.proofs.running.end_part_attempt.Goals as goal

pub returns : goal.returns
returns c =
    updated_here (part_without (is_numbered c.args.attempt)) c.args.parts.now.items
    c.index-place.ensures.value c.index.ensures c.part_without_ended.ensures c.requires
