use Rattle.std.proofs.Common.{◌≡◌, refl, arith, slice_index}
use Rattle.std.proofs.lemmas.Bool.{eq-eqb}
use Rattle.rack_tree.specs.Tree.{centre_at}
use Rattle.tree_flow.specs.declared.nodes.TreeNode.TheVariants.{Worker, Rack, Centre, Cluster}
use Rattle.tree_planner.proofs.tables.one_less_above.Goals as goal

pub one_less-requires-clause-some : goal.one_less-requires-clause-some
one_less-requires-clause-some c = c.requires.some Cluster refl

pub one_less-requires-2-clause-some : goal.one_less-requires-2-clause-some
one_less-requires-2-clause-some c =
    let tree = c.args.problem.now.tree in
    let centre = c.index.result in
    let is : centre ≡ centre_at tree c.args.worker = grind arith in
    let one = c.one_less.ensures.others (Centre centre) (λ s. cc) in
    let some = c.requires.some (Centre centre) (eq-eqb centre (centre_at tree c.args.worker) is) in
    omega arith

pub one_less-requires-3-clause-some : goal.one_less-requires-3-clause-some
one_less-requires-3-clause-some c =
    let tree = c.args.problem.now.tree in
    let rack = c.index-2.result in
    let is : rack ≡ slice_index tree.rack_of c.args.worker = grind arith in
    let one = c.one_less.ensures.others (Rack rack) (λ s. cc) in
    let two = c.one_less-2.ensures.others (Rack rack) (λ s. cc) in
    let some = c.requires.some (Rack rack) (eq-eqb rack (slice_index tree.rack_of c.args.worker) is) in
    omega arith

pub one_less-requires-4-clause-some : goal.one_less-requires-4-clause-some
one_less-requires-4-clause-some c =
    let worker = c.index-3.result in
    let is : worker ≡ c.args.worker = grind arith in
    let one = c.one_less.ensures.others (Worker worker) (λ s. cc) in
    let two = c.one_less-2.ensures.others (Worker worker) (λ s. cc) in
    let three = c.one_less-3.ensures.others (Worker worker) (λ s. cc) in
    let some = c.requires.some (Worker worker) (eq-eqb worker c.args.worker is) in
    omega arith
