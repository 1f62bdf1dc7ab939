use Rattle.node_ids.proofs.Updating.{updated_at}
use Rattle.block_map.specs.Holdings.{without}
use Rattle.block_map.proofs.BlockMap.drop_one.Goals as goal

pub returns-clause-dropped : goal.returns-clause-dropped
returns-clause-dropped c =
    updated_at (without c.args.worker)
    c.self.inside.lists.items c.args.self.now c.index.result c.args.split
    c.index_mut.result.now c.remove.new.self
    c.index.ensures.value c.self.view_is c.index_mut.ensures.value c.remove.ensures c.requires
