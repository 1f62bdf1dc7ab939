use Rattle.std.proofs.Common.{ℕ, ◌+◌, arith}
use Rattle.rack_network.specs.Racks.{unstarted_node}
use Rattle.rack_network.specs.Build.{rank}
use Rattle.rack_network.proofs.Rows.{all_arcs}
use Rattle.rack_network.proofs.network.build.Goals as goal

pub returns-clause-arcs : goal.returns-clause-arcs
returns-clause-arcs c =
    let wave = c.args.problem.now in
    let limit : ℕ = rank wave (unstarted_node wave) 0 in
    record {
      rows = (all_arcs wave limit (limit + 1) c.add_slots.new.network c.add.new.network (omega arith)
          c.in_ok-add_slots.ensures c.in_ok-add.ensures).0;
      tree = c.know_tree.ensures;
    }

pub returns-clause-empty : goal.returns-clause-empty
returns-clause-empty c =
    let wave = c.args.problem.now in
    let limit : ℕ = rank wave (unstarted_node wave) 0 in
    (all_arcs wave limit (limit + 1) c.add_slots.new.network c.add.new.network (omega arith)
    c.in_ok-add_slots.ensures c.in_ok-add.ensures).1
