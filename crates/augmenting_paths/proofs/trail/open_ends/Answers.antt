use Rattle.std.proofs.Common.{get_or, arith}
use Rattle.flow_network.specs.declared.arcs.ArcNo.TheVariants.{Forward}
use Rattle.shortest_paths.proofs.Costs.{head_in}
use Rattle.augmenting_paths.proofs.trail.open_ends.Goals as goal

pub view-requires : goal.view-requires
view-requires g c =
    c.requires.path c.loop-arc.arc-index (Forward 0) c.loop-arc-test.true

pub bounds-closed-view : goal.bounds-closed-view
bounds-closed-view g c =
    let arc = get_or c.args.path.now c.loop-arc.arc-index (Forward 0) in
    let listed = c.requires.path c.loop-arc.arc-index (Forward 0) c.loop-arc-test.true in
    let inside = head_in _ c.args.network.now.arcs arc c.requires.arcs listed in
    let size = c.requires.size in
    let same = c.loop-arc.invariant in
    rw c.view.ensures.to (omega arith)
