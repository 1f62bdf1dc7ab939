use Rattle.std.proofs.Common.{◌≡◌, ℕ, ◌∙◌, inl, inr, ap, subst, sym, get_or, length, Contains, arith}
use borrow.Author.Count.{below_more}
use Rattle.std.proofs.lemmas.List.Elements.{Contains-get_or}
use Rattle.tree_flow.specs.declared.nodes.TreeNode.TheVariants.{Cluster, Worker}
use Rattle.tree_flow.specs.Nodes.{parent}
use Rattle.tree_flow.specs.State.{slots_of}
use Rattle.tree_flow.proofs.Moved.{same_or_not}
use Rattle.tree_planner.specs.Hanging.{hanging}
use Rattle.tree_planner.specs.Searching.{far_at, state_at, wave_of, IsDown}
use Rattle.tree_planner.proofs.Improved.{at_kept, down_kept, improves_trans}
use Rattle.tree_planner.proofs.Looked.{at_each, room_known}
use Rattle.tree_planner.proofs.search.look_down.Goals as goal

pub step_down-requires-clause-below : goal.step_down-requires-clause-below
step_down-requires-clause-below c =
    let g = c.args.ground.now in
    let row = c.of-below-items.result.now in
    let v = get_or row c.loop-below.below-index (Worker 0) in
    (c.requires.ground.children.each c.args.node v).0 (subst (λ xs. Contains xs v) c.of-below-items.ensures
    (Contains-get_or row c.loop-below.below-index (Worker 0) c.loop-below-test.true))

pub step_down-requires-clause-at : goal.step_down-requires-clause-at
step_down-requires-clause-at c =
    at_kept c.args.search.now c.loop-below.search c.loop-below.invariant.improves c.args.node c.requires.at

pub loop-below-preserved : goal.loop-below-preserved
loop-below-preserved c =
    let g = c.args.ground.now in
    let row = hanging g.children.now c.args.node in
    let old = c.loop-below.search in
    let new = c.step_down.new.search in
    let i = c.step_down.ensures.improves in
    let at = at_kept c.args.search.now old c.loop-below.invariant.improves c.args.node c.requires.at in
    record {
      searching = c.step_down.ensures.searching;
      improves = improves_trans c.args.search.now old new c.loop-below.invariant.improves i;
      down = below_more (λ (k : ℕ). IsDown g new c.args.node (get_or row k (Worker 0))) c.loop-below.below-index
          (λ k l. down_kept old new i.nearer g c.args.node
          (get_or row k (Worker 0)) at.settled (c.loop-below.invariant.down k l))
          (subst (λ xs. IsDown g new c.args.node (get_or xs c.loop-below.below-index (Worker 0)))
          c.of-below-items.ensures c.step_down.ensures.down);
    }

pub returns-clause-down : goal.returns-clause-down
returns-clause-down c = λ v is room. elim (same_or_not v Cluster) [
  | inl top ↦
      (let g = c.args.ground.now in
      let search = c.loop-below.search in
      let same : v ≡ c.args.node = top ∙ ap (λ v. parent (wave_of g).tree v) (sym top) ∙ is in
      let far = ap (λ v. far_at search v) same in
      let depth = ap (λ v. (state_at g).depth v) same in
      omega arith)
  | inr below ↦
      (let g = c.args.ground.now in
      let row = hanging g.children.now c.args.node in
      let size = ap length c.of-below-items.ensures in
      let node = room_known (wave_of g) c.requires.ground.known v (slots_of (wave_of g)) (omega arith) in
      at_each row (Worker 0) (λ v. IsDown g c.loop-below.search c.args.node v)
      (λ k l. c.loop-below.invariant.down k (omega arith)) v
      ((c.requires.ground.children.each c.args.node v).1 (record { known = node; below = below; above = is })) is room)
]
