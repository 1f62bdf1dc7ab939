use Rattle.std.proofs.Common.{◌≡◌, ◌+◌, ◌<◌, ◌∙◌, ℕ, ap, arith, get_or, length, refl, subst, sym, true}
use Rattle.std.proofs.lemmas.List.{get_or_read}
use Rattle.rack_tree.specs.Tree.{Tree}
use Rattle.tree_flow.specs.declared.nodes.TreeNode.TheVariants.{Worker}
use Rattle.tree_flow.specs.Nodes.{is_under}
use Rattle.tree_planner.specs.Ends.{Grouped, IsIn, IsLeft}
use Rattle.tree_planner.specs.Hanging.{HangsFrom}
use Rattle.tree_planner.specs.Searching.{wave_of, IsOutBy, IsOverTo}
use Rattle.tree_planner.proofs.Barred.{at_in_row}
use Rattle.tree_planner.proofs.Covered.{next_rest, IsRestAt, IsRestTaken}
use Rattle.tree_planner.proofs.Improved.{improves_refl}
use Rattle.tree_planner.proofs.over.over_rest.Goals as goal
use Rattle.tree_planner.proofs.over.over_rest.Goals.{then-number-most, else-number-most}

pub loop-worker-preserved : goal.loop-worker-preserved
loop-worker-preserved c =
    let g = c.args.ground.now in
    let tree = (wave_of g).tree in
    let m = c.args.leaving in
    let Out = IsOutBy g c.args.ends.now in
    let u = c.args.top in
    let level = c.args.level in
    let list = c.barred-workers.result.now in
    let n = c.loop-worker.worker-index in
    let first = c.args.search.now in
    let now = c.loop-worker.search in
    let before = c.loop-worker.invariant in
    let worker = c.worker-item.result in
    let here : worker ≡ get_or list n 0 = get_or_read list n worker c.loop-worker-test.true c.worker-item.is 0 in
    elim c.if-number-most.branch [
      | then-number-most w ↦
          subst (λ s. IsRestTaken g first s m Out u level list (n + 1)) (sym w.search-is)
          (next_rest g first now w.over_node.new.search m Out u level list n before
          w.over_node.ensures.searching w.over_node.ensures.improves
          (subst (λ (x : ℕ). IsRestAt g w.over_node.new.search m Out u level x) here (λ v known under left.
          (let same = w.next_above-node.ensures.next v
          (subst (λ (t : Tree). HangsFrom t u v) (sym c.tree-tree.ensures.tree) left.0)
          (subst (λ (t : Tree). is_under t (Worker worker) v ≡ true) (sym c.tree-tree.ensures.tree) under) in
          subst (λ v. IsLeft tree Out u v → IsOverTo g w.over_node.new.search m.end m.split
          (record { node = v; level = level })) same w.over_node.ensures.over left))))
      | else-number-most w ↦
          subst (λ s. IsRestTaken g first s m Out u level list (n + 1)) (sym w.search-is)
          (next_rest g first now now m Out u level list n before before.searching (improves_refl now)
          (λ v known under left. absurd
          (let at = here in
          let number = c.index-number.ensures.value in
          let count = c.workers-most.ensures.count in
          let same = ap (λ (t : Tree). length t.rack_of) c.tree-tree.ensures.tree in
          let past = w.if-number-most.false in
          omega arith)))
    ]

pub returns-then-many-clause-over : goal.returns-then-many-clause-over
returns-then-many-clause-over c = λ v out left.
    c.over_all.ensures.over (record { node = v; level = c.args.level }) (left, refl)

pub returns-clause-over : goal.returns-clause-over
returns-clause-over c = λ v out left.
    (let g = c.args.ground.now in
    let tree = (wave_of g).tree in
    let list = c.barred-workers.result.now in
    let same = sym (c.barred-workers.ensures ∙ ap (λ (e : Grouped). e.barred) c.ends_of.ensures) in
    let at = at_in_row list out.0 (subst (λ row. IsIn row out.0) same out.3) in
    let is : out.0 ≡ get_or list at.0 0 = sym at.2 in
    c.loop-worker.invariant.over at.0 (let l = at.1 in omega arith) v
    (subst (λ (w : ℕ). w < length tree.rack_of) is out.1)
    (subst (λ (w : ℕ). is_under tree (Worker w) v ≡ true) is out.2) left)
