use Rattle.std.proofs.Common.{ℕ, ◌+◌, ◌*◌, length, arith}
use Rattle.direct_network.proofs.Rows.{all_arcs}
use Rattle.direct_network.proofs.network.build.Goals as goal

pub returns-clause-arcs : goal.returns-clause-arcs
returns-clause-arcs c =
    let limit : ℕ = 257 * length c.args.problem.now.splits + length c.args.problem.now.workers in
    (all_arcs c.args.problem.now limit (limit + 1) c.add_workers.new.network c.add.new.network (omega arith)
    c.in_ok-add_workers.ensures c.in_ok-add.ensures).0

pub returns-clause-empty : goal.returns-clause-empty
returns-clause-empty c =
    let limit : ℕ = 257 * length c.args.problem.now.splits + length c.args.problem.now.workers in
    (all_arcs c.args.problem.now limit (limit + 1) c.add_workers.new.network c.add.new.network (omega arith)
    c.in_ok-add_workers.ensures c.in_ok-add.ensures).1
