use Rattle.master_state.specs.Changes.{part_done_by}
use Rattle.master_tables.proofs.Together.{updated_here}
use Rattle.master_tables.proofs.completions.finish_part.Goals as goal

pub returns : goal.returns
returns c =
    updated_here (part_done_by c.args.attempt) c.args.parts.now.items c.index-place.ensures.value
    c.index.ensures c.part_done_by.ensures c.requires
