use Rattle.std.proofs.Common.{◌≡◌, ◌∙◌, true, subst}
use Rattle.tree_flow.specs.declared.nodes.TreeNode.TheVariants.{Worker}
use Rattle.tree_flow.specs.Nodes.{is_under}
use Rattle.tree_flow.proofs.Given.{under_parent}
use Rattle.tree_planner.proofs.refill.+sink.Goals as goal

pub returns : goal.returns
returns t c =
    let tree = c.args.problem.now.tree in
    let below = c.child_with_units-below in
    record {
      standing = c.sink.ensures.standing;
      worker = c.sink.ensures.worker;
      under = subst (λ v. is_under tree (Worker c.sink.result) v ≡ true) below.ensures.above
          (under_parent tree (Worker c.sink.result) below.result c.sink.ensures.under);
      depth = c.sink.ensures.depth ∙ c.sink_to.ensures.depth;
      places = c.sink.ensures.places ∙ c.sink_to.ensures.places;
    }
