use Rattle.std.proofs.Common.{◌*◌, arith}
use Rattle.tree_planner.specs.Searching.{wave_of}
use Rattle.tree_flow.proofs.Costs.{scaled-le}
use Rattle.tree_flow.proofs.Ends.{reach_few}
use Rattle.tree_planner.proofs.search.cost_at.Goals as goal

pub overflow_add-result : goal.overflow_add-result
overflow_add-result c =
    let few = reach_few (wave_of c.args.ground.now).tree c.args.end.level c.requires.is_end.level in
    let steps = scaled-le c.bytes.result (2 * c.from-steps.result) c.bytes.ensures.most (omega arith) in
    let small = c.requires.ground.small in
    omega arith
