use Rattle.std.proofs.Common.{◌≤◌, length, ap, arith}
use Rattle.shortest_paths.proofs.AllPaths.{finds_all}
use Rattle.shortest_paths.proofs.reached.find.Goals as goal

pub invariant_of-result : goal.invariant_of-result
invariant_of-result g c =
    let size = ap length c.depths-nodes.ensures.depths in
    let past : length c.args.potentials.now ≤ length c.depths-nodes.result.now = omega arith in
    (finds_all _ _ past (record {
      network = c.layout.ensures.limits;
      size = c.requires.nodes;
      deep = c.depths-nodes.ensures.most;
      reduced = c.requires.reduced;
    }) c.in_ok-run.ensures.ends).back

pub returns-clause-size : goal.returns-clause-size
returns-clause-size g c =
    let size = ap length c.depths-nodes.ensures.depths in
    let past : length c.args.potentials.now ≤ length c.depths-nodes.result.now = omega arith in
    (finds_all _ _ past (record {
      network = c.layout.ensures.limits;
      size = c.requires.nodes;
      deep = c.depths-nodes.ensures.most;
      reduced = c.requires.reduced;
    }) c.in_ok-run.ensures.ends).size

pub returns-clause-least : goal.returns-clause-least
returns-clause-least g c =
    let size = ap length c.depths-nodes.ensures.depths in
    let past : length c.args.potentials.now ≤ length c.depths-nodes.result.now = omega arith in
    (finds_all _ _ past (record {
      network = c.layout.ensures.limits;
      size = c.requires.nodes;
      deep = c.depths-nodes.ensures.most;
      reduced = c.requires.reduced;
    }) c.in_ok-run.ensures.ends).least
