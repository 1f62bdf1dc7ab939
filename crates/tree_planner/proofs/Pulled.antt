-- A hole that sinks to a worker to which a unit has come down.
use Rattle.std.proofs.Common.{◌≡◌, ℕ, ◌<◌, true, Some, List, Option, length, sym, ap, ◌∙◌, arith}
use Rattle.std.specs.Prelude.{◌≢◌}
use Rattle.std.proofs.lemmas.Bool.{false≢true}
use Rattle.rack_tree.specs.Tree.{Tree}
use Rattle.wave_problem.specs.Assignment.{start_of}
use Rattle.wave_problem.specs.Wave.{IsUsable, Wave}
use Rattle.tree_flow.specs.declared.nodes.TreeNode.{TreeNode}
use Rattle.tree_flow.specs.declared.nodes.TreeNode.TheVariants.{Cluster, Worker}
use Rattle.tree_flow.specs.Nodes.{is_under, parent}
use Rattle.tree_flow.specs.Settled.{HasComeDown, IsHandedDown}
use Rattle.tree_flow.specs.State.{slots_of, State, IsKept}
use Rattle.tree_flow.proofs.Certified.{some_start}
use Rattle.tree_flow.proofs.Given.{under_parent}
use Rattle.tree_flow.proofs.Moved.{parent_not_under, under_own}
use Rattle.tree_flow.proofs.Under.{slots-usable, stands_known, under_worker}
use Rattle.tree_planner.proofs.Sunk.{parent_other}

-- the same units come down where as many units go to each node
pub come_same : (tree : Tree) (old new : State) (v : TreeNode) (w : ℕ) → new.flow ≡ old.flow
    → HasComeDown tree old v w → HasComeDown tree new v w
come_same tree old new v w same come = record {
  under = come.under;
  flows = λ u one other n.
      (let some = come.flows u one other n in
      let is = ap (λ f. f u) same in
      omega arith);
}

-- units go to the next node on the way down
pub next_flows : (tree : Tree) (state : State) (below : TreeNode) (w : ℕ) → below ≢ Cluster
    → is_under tree (Worker w) below ≡ true → HasComeDown tree state (parent tree below) w
    → 0 < state.flow below
next_flows tree state below w hangs under come =
    come.flows below under (under_parent tree below below (under_own tree below))
    (λ e. parent_other tree below hangs (sym e))

-- and to those after it
pub come_below : (tree : Tree) (old new : State) (below : TreeNode) (w : ℕ) → below ≢ Cluster
    → is_under tree (Worker w) below ≡ true → HasComeDown tree old (parent tree below) w
    → ((v : TreeNode) → v ≢ below → new.flow v ≡ old.flow v) → HasComeDown tree new below w
come_below tree old new below w hangs under come same = record {
  under = under;
  flows = λ u one other n.
      (let some = come.flows u one (under_parent tree u below other) (λ e. false≢true
      (sym (parent_not_under tree below hangs) ∙ ap (λ v. is_under tree v below) (sym e) ∙ other)) in
      let is = same u n in
      omega arith);
}

-- on a worker with slots of which none is free some split starts
pub start_there : (wave : Wave) (state : State) (starts : List (Option ℕ)) (w : ℕ) → w < length wave.workers
    → IsUsable wave.workers w → IsKept wave state → state.free w ≡ 0 → IsHandedDown wave state starts
    → ((s : ℕ) → s < length starts → start_of starts s ≢ Some w) → ⊥
start_there wave state starts w known usable kept full down none =
    let each = kept.balanced.each (Worker w) in
    let slots = under_worker wave (slots_of wave) w known in
    let free = under_worker wave state.free w known in
    let some = usable.1 in
    let line = slots-usable wave w usable in
    let loads = down.loads w in
    let found = some_start 0 w starts (omega arith) in
    let stood = down.started found.0 w found.1 in
    let at = stands_known state found.0 stood.0 stood.1 in
    let places = kept.balanced.size in
    let size = down.size in
    none found.0 (omega arith) found.1
