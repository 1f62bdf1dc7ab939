use Rattle.std.proofs.Common.{List, ℕ, ◌++◌, ◌∷◌, []}
use Rattle.node_ids.proofs.Updating.{updated_at}
use Rattle.block_map.proofs.BlockMap.add.Goals as goal

pub returns-clause-added : goal.returns-clause-added
returns-clause-added c =
    updated_at (λ (holders : List ℕ). holders ++ c.args.worker ∷ [])
    c.self.inside.lists.items c.args.self.now c.index.result c.args.split
    c.index_mut.result.now c.add.new.self
    c.index.ensures.value c.self.view_is c.index_mut.ensures.value c.add.ensures c.requires
