use Rattle.std.proofs.Common.{◌≡◌, ℕ, ◌+◌, ◌-◌, ◌<◌, length, ap, subst, ◌∙◌, arith}
use Rattle.rack_tree.specs.Tree.{Tree}
use Rattle.wave_problem.specs.Wave.{Wave}
use Rattle.certificate_checker.specs.Slots.{node_at, nodes_at, slot_at, AreLinked}
use Rattle.certificate_checker.proofs.Linked.{same_node}
use Rattle.certificate_checker.proofs.pairs.linked.Goals as goal

pub loop-place-init : goal.loop-place-init
loop-place-init c =
    let slots = c.args.slots.now in
    let tree = c.args.checker.now.wave.tree in
    let above : ℕ → ℕ = λ k. node_at tree c.args.level (slot_at slots k).worker in
    let nodes : c.nodes.result ≡ nodes_at tree c.args.level =
    c.nodes.ensures ∙ ap (λ (t : Tree). nodes_at t c.args.level)
    (c.tree-tree.ensures.tree ∙ ap (λ (wave : Wave). wave.tree) c.problem.ensures) in
    subst (λ (n : ℕ). AreLinked above n (length slots) c.in_ok-chain.chain (length slots)) nodes
    (c.in_ok-chain.ensures above)

pub loop-place-preserved : goal.loop-place-preserved
loop-place-preserved c =
    let slots = c.args.slots.now in
    let tree = c.args.checker.now.wave.tree in
    let place : ℕ = c.loop-place.place - 1 in
    let above : ℕ → ℕ = λ k. node_at tree c.args.level (slot_at slots k).worker in
    let nodes : ℕ = nodes_at tree c.args.level in
    let within : place < length slots = omega (arith, c.loop-place-test.true, c.loop-place.auto.place) in
    let here = same_node tree _ c.args.level slots place _ _ within
    (c.tree-tree.ensures.tree ∙ ap (λ (wave : Wave). wave.tree) c.problem.ensures) c.node.ensures.node in
    let next : c.loop-place.place ≡ place + 1 = omega (arith, c.loop-place-test.true) in
    c.link.ensures above nodes (length slots) within here
    (subst (AreLinked above nodes (length slots) c.loop-place.chain) next c.loop-place.invariant)
