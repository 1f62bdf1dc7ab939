use Rattle.std.proofs.Common.{◌≡◌, ◌+◌, length, sym, subst, arith}
use Rattle.tree_planner.proofs.Listed.{IsListed, list_centre, list_rack, list_worker, all_listed}
use Rattle.tree_planner.proofs.tree_nodes.all_nodes.Goals as goal

pub loop-c-preserved : goal.loop-c-preserved
loop-c-preserved c =
    let tree = c.args.tree.now in
    subst (λ xs. IsListed tree xs (c.loop-c.c + 1) 0 0) (sym c.in_ok-push-2.ensures.items)
    (list_centre tree c.loop-c.nodes.items c.loop-c.c 0 0 c.loop-c.invariant (omega arith))

pub loop-r-preserved : goal.loop-r-preserved
loop-r-preserved c =
    let tree = c.args.tree.now in
    subst (λ xs. IsListed tree xs tree.centres (c.loop-r.r + 1) 0) (sym c.in_ok-push-3.ensures.items)
    (list_rack tree c.loop-r.nodes.items tree.centres c.loop-r.r 0 c.loop-r.invariant (omega arith))

pub loop-w-preserved : goal.loop-w-preserved
loop-w-preserved c =
    let tree = c.args.tree.now in
    subst (λ xs. IsListed tree xs tree.centres (length tree.centre_of) (c.loop-w.w + 1)) (sym c.in_ok-push-4.ensures.items)
    (list_worker tree c.loop-w.nodes.items tree.centres (length tree.centre_of) c.loop-w.w c.loop-w.invariant
    (omega arith))

pub returns : goal.returns
returns c =
    let tree = c.args.tree.now in
    let all : c.loop-w.w ≡ length tree.rack_of = omega arith in
    all_listed tree c.loop-w.nodes.items (subst (λ n. IsListed tree c.loop-w.nodes.items tree.centres
    (length tree.centre_of) n) all c.loop-w.invariant)
