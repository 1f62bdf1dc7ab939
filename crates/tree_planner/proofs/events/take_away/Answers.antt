use Rattle.std.proofs.Common.{◌≡◌, ℕ, true, subst, sym}
use Rattle.tree_flow.specs.declared.nodes.TreeNode.TheVariants.{Worker}
use Rattle.tree_flow.specs.Nodes.{is_under}
use Rattle.tree_flow.proofs.Ends.{end_sound}
use Rattle.tree_planner.proofs.events.take_away.Goals as goal

pub sink-requires-clause-known : goal.sink-requires-clause-known
sink-requires-clause-known c =
    (c.requires.standing.kept.cheapest.ends c.args.split c.stood_at-end.result c.stood_at-end.ensures).known

pub returns-clause-admissible : goal.returns-clause-admissible
returns-clause-admissible c =
    let wave = c.args.problem.now in
    let end = c.stood_at-end.result in
    (end_sound wave c.args.split c.new-worker.result end
    (c.requires.standing.kept.cheapest.ends c.args.split end c.stood_at-end.ensures)
    c.remove_slot.ensures.usable
    (subst (λ (w : ℕ). is_under wave.tree (Worker w) end.node ≡ true) (sym c.new-worker.ensures)
    c.sink.ensures.under)).0
