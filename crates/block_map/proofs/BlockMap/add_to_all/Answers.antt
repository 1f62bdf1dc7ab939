use Rattle.block_map.proofs.Holding.{length-with_holder_of_all}
use Rattle.block_map.proofs.BlockMap.add_to_all.Goals as goal

pub invariant_of-self : goal.invariant_of-self
invariant_of-self c =
    let same = length-with_holder_of_all c.self.inside.lists.items c.args.set.now c.args.worker in
    rw (c.add_to_each.ensures, same) c.self.invariant
