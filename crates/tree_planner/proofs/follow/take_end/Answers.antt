use Rattle.std.proofs.Common.{ℕ, ap, arith}
use Rattle.tree_flow.specs.declared.node_table.NodeTable.{NodeTable}
use Rattle.tree_flow.specs.declared.nodes.TreeNode.{TreeNode}
use Rattle.tree_flow.specs.Table.{at_node}
use Rattle.tree_flow.specs.declared.nodes.Place.TheVariants.{Waits}
use Rattle.tree_planner.specs.View.{state_of}
use Rattle.tree_planner.proofs.Followed.{follow_off, follow_slot, follow_wait, goal_slot}
use Rattle.tree_flow.proofs.Moved.{here_now}
use Rattle.tree_planner.proofs.follow.take_end.Goals as goal

pub returns-in-Wait-clause-hole : goal.returns-in-Wait-clause-hole
returns-in-Wait-clause-hole c =
    let wave = c.args.problem.now in
    let old = state_of c.args.tables.now in
    let new = state_of c.place.new.tables in
    let search = c.args.search.now in
    record {
      kept = follow_wait wave old new search c.requires.ready c.in-Wait.is c.place.ensures.placed;
      shipped = λ e. (let now = here_now wave old new search.split Waits c.place.ensures.placed in cc);
    }

pub take_below-requires-clause-known : goal.take_below-requires-clause-known
take_below-requires-clause-known c =
    let old = state_of c.args.tables.now in
    (goal_slot c.args.problem.now old old c.args.search.now c.requires.ready c.in-Slot.node c.in-Slot.is).known

pub take_below-requires-clause-some : goal.take_below-requires-clause-some
take_below-requires-clause-some c =
    let old = state_of c.args.tables.now in
    let t = goal_slot c.args.problem.now old old c.args.search.now c.requires.ready c.in-Slot.node c.in-Slot.is in
    let some = t.some in
    let sums = c.requires.tables.sums c.in-Slot.node in
    omega arith

pub returns-in-Slot-clause-hole : goal.returns-in-Slot-clause-hole
returns-in-Slot-clause-hole c =
    follow_slot c.args.problem.now (state_of c.args.tables.now) (state_of c.take_below.new.tables) c.args.search.now
    c.requires.ready c.in-Slot.node c.in-Slot.is c.take_below.ensures.hole c.take_below.ensures.terms c.take_below.ensures.places
    (ap (λ (t : NodeTable ℕ). (λ (v : TreeNode). at_node t v)) c.take_below.ensures.depth)
    c.take_below.ensures.flows

pub returns-in-Off-clause-hole : goal.returns-in-Off-clause-hole
returns-in-Off-clause-hole c =
    follow_off c.args.problem.now (state_of c.args.tables.now) (state_of c.place-in-Off.new.tables)
    c.args.search.now c.requires.ready c.in-Off.split c.stood_at-end.result c.in-Off.is c.stood_at-end.ensures
    c.place-in-Off.ensures.placed

pub take_below-requires-clause-cheap : goal.take_below-requires-clause-cheap
take_below-requires-clause-cheap c =
    let old = state_of c.args.tables.now in
    (goal_slot c.args.problem.now old old c.args.search.now c.requires.ready c.in-Slot.node c.in-Slot.is).cheap
