use Rattle.std.proofs.Common.{◌≡◌, ℕ, ◌<◌, arith, get_or, length, subst, sym, true}
use Rattle.std.proofs.lemmas.Bool.{false≢true}
use Rattle.tree_flow.specs.declared.nodes.TreeNode.TheVariants.{Worker}
use Rattle.tree_flow.specs.Nodes.{is_under}
use Rattle.tree_planner.specs.Ends.{Grouped, IsIn}
use Rattle.tree_planner.proofs.Barred.{at_in_row}
use Rattle.tree_planner.proofs.split_ends.Ends.have_under.Goals as goal

pub returns : goal.returns
returns c = (
  λ found. absurd (false≢true found),
  λ out.
      (let tree = c.args.tree.now in
      let list = c.self.inside.barred.now in
      let at = at_in_row list out.0 (subst (λ (e : Grouped). IsIn e.barred out.0) (sym c.self.view_is) out.3) in
      let is : out.0 ≡ get_or list at.0 0 = sym at.2 in
      let past = c.loop-worker-test.false in
      let few = at.1 in
      absurd (c.loop-worker.invariant at.0 (omega arith) (subst (λ (w : ℕ). w < length tree.rack_of) is out.1)
      (subst (λ (w : ℕ). is_under tree (Worker w) c.args.node ≡ true) is out.2))),
)
