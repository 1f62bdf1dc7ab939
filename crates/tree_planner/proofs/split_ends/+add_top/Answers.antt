use Rattle.std.proofs.Common.{◌≡◌, Vec, Global, ◌↔◌, ◌⊎◌, ◌∙◌, ap, sym, subst, get_or, length, Contains, arith, inl, inr, refl}
use Rattle.std.proofs.lemmas.Bool.{cases_Bool, false≢true}
use Rattle.std.proofs.lemmas.List.Elements.{Contains-get_or}
use Rattle.tree_planner.specs.declared.split_ends.Group.{Group}
use Rattle.tree_planner.specs.declared.split_ends.Group.TheVariants.{Below}
use Rattle.tree_flow.specs.declared.nodes.TreeNode.TheVariants.{Rack, Worker}
use Rattle.tree_flow.specs.Nodes.{HasBarUnder}
use Rattle.tree_planner.specs.Bars.{bar_at, HasEndFor, IsTopEnd}
use Rattle.tree_planner.specs.Ends.{IsOf}
use Rattle.tree_planner.specs.Hanging.{hanging}
use Rattle.tree_planner.proofs.Descended.{end_below, part_more, part_none, rises, sinks, IsPart}
use Rattle.tree_planner.proofs.Barred.{has_entry}
use Rattle.tree_planner.proofs.Handed.{height, height_less}
use Rattle.tree_planner.proofs.Grouped.{below_rises, push_group, rack_ends}
use Rattle.tree_planner.proofs.Known.{is_known}
use Rattle.tree_planner.proofs.Tops.{join_below, only_top, push_ends, push_top}
use Rattle.tree_planner.proofs.split_ends.+add_top.Goals as goal
use Rattle.tree_planner.proofs.split_ends.+add_top.Goals.{then-has_bar+in_ok-add_top, else-has_bar}

pub returns-then-not-has_bar : goal.returns-then-not-has_bar
returns-then-not-has_bar t c = λ e.
    (let wave = c.args.problem.now in
    let s = c.args.split in
    let top = c.args.top in
    subst (λ xs. HasEndFor wave s xs e ↔ (HasEndFor wave s c.args.groups.now.items e ⊎ IsTopEnd wave s top e))
    (sym c.in_ok-push.ensures.items)
    (push_top wave s top c.args.groups.now.items c.requires.known
    (λ b. false≢true (sym c.if-not-has_bar.true ∙ c.has_bar.ensures
    ∙ (c.requires.bars.each top.node c.requires.known).1 b)) e))

pub returns-in-Rack : goal.returns-in-Rack
returns-in-Rack t c = λ e.
    (let wave = c.args.problem.now in
    let s = c.args.split in
    let top = c.args.top in
    let rack = c.in-Rack.field-0 in
    let old = c.args.groups.now.items in
    let at : top ≡ record { node = Rack rack; level = top.level } =
    ap (λ v. record { node = v; level = top.level }) c.in-Rack.is in
    let barred = (c.requires.bars.each top.node c.requires.known).0 (sym c.has_bar.ensures ∙ c.if-not-has_bar.false) in
    subst (λ xs. HasEndFor wave s xs e ↔ (HasEndFor wave s old e ⊎ IsTopEnd wave s top e))
    (sym c.in_ok-push-2.ensures.items)
    (push_ends wave s top old (Below top.node top.level) e
    (subst (λ top. IsOf wave.tree (HasBarUnder wave s) (Below top.node top.level) e ↔ IsTopEnd wave s top e) (sym at)
    (rack_ends wave s rack top.level (subst (λ v. HasBarUnder wave s v) c.in-Rack.is barred) e))))

pub has_bar-requires-in-loop-node : goal.has_bar-requires-in-loop-node
has_bar-requires-in-loop-node t c =
    let below = c.of-node-items.result.now in
    let node = get_or below c.loop-node.node-index (Worker 0) in
    let hangs = (c.requires.children.each c.args.top.node node).0 (subst (λ xs. Contains xs node) c.of-node-items.ensures
    (Contains-get_or below c.loop-node.node-index (Worker 0) c.loop-node-test.true)) in
    has_entry c.args.problem.now.tree c.args.bars.now node c.requires.bars.over hangs.known

pub add_top-requires : goal.add_top-requires
add_top-requires t c =
    let tree = c.args.problem.now.tree in
    let i = c.loop-node.node-index in
    let below = c.of-node-items.result.now in
    let node = get_or below i (Worker 0) in
    let hangs = (c.requires.children.each c.args.top.node node).0 (subst (λ xs. Contains xs node) c.of-node-items.ensures
    (Contains-get_or below i (Worker 0) c.loop-node-test.true)) in
    let less = height_less tree node hangs.below in
    let same = ap height hangs.above in
    let at = c.decreases in (omega arith, (c.requires.children, (c.requires.bars, hangs.known)))

pub loop-node-preserved : goal.loop-node-preserved
loop-node-preserved t c = λ e.
    (let wave = c.args.problem.now in
    let s = c.args.split in
    let at = c.loop-node.node-index in
    let top = c.args.top in
    let below = c.of-node-items.result.now in
    let node = get_or below at (Worker 0) in
    let hangs = (c.requires.children.each top.node node).0 (subst (λ xs. Contains xs node) c.of-node-items.ensures
    (Contains-get_or below at (Worker 0) c.loop-node-test.true)) in
    let bar = c.requires.bars.each node hangs.known in
    let now = c.loop-node.groups.items in
    let one : HasEndFor wave s c.if-has_bar.groups.items e ↔ (HasEndFor wave s now e ⊎ IsPart wave s top below e at) =
    elim c.if-has_bar.branch [
      | then-has_bar+in_ok-add_top w ↦
          subst (λ (v : Vec Group Global). HasEndFor wave s v.items e ↔ (HasEndFor wave s now e ⊎ IsPart wave s top below e at))
          (sym w.groups-is) (part_more (bar.0 (sym c.has_bar-in-loop-node.ensures ∙ w.if-has_bar.true))
          (w.in_ok-add_top.ensures e))
      | else-has_bar w ↦
          subst (λ (v : Vec Group Global). HasEndFor wave s v.items e ↔ (HasEndFor wave s now e ⊎ IsPart wave s top below e at))
          (sym w.groups-is) (part_none (λ b. false≢true
          (sym w.if-has_bar.false ∙ c.has_bar-in-loop-node.ensures ∙ bar.1 b)))
    ] in
    join_below (IsPart wave s top (hanging c.args.children.now top.node) e) at
    (subst (λ below. HasEndFor wave s c.if-has_bar.groups.items e ↔ (HasEndFor wave s now e ⊎ IsPart wave s top below e at))
    c.of-node-items.ensures one) (c.loop-node.invariant e))

pub returns : goal.returns
returns t c = λ e.
    (let wave = c.args.problem.now in
    let s = c.args.split in
    let top = c.args.top in
    let below = hanging c.args.children.now top.node in
    let each = c.requires.children.each top.node in
    let known = is_known wave c.limits.ensures.problem c.limits.ensures.tree in
    let barred = (c.requires.bars.each top.node c.requires.known).0 (sym c.has_bar.ensures ∙ c.if-not-has_bar.false) in
    let i = c.loop-node.invariant e in
    let size = ap length c.of-node-items.ensures in
    let old = c.args.groups.now.items in
    let first : HasEndFor wave s c.push-2.new.self.items e ↔ (HasEndFor wave s old e
    ⊎ IsOf wave.tree (HasBarUnder wave s) (Below top.node top.level) e) =
    subst (λ xs. HasEndFor wave s xs e ↔ (HasEndFor wave s old e
    ⊎ IsOf wave.tree (HasBarUnder wave s) (Below top.node top.level) e)) (sym c.in_ok-push-2.ensures.items)
    (push_group wave.tree (HasBarUnder wave s) old (Below top.node top.level) e) in (
      λ has. elim (i.0 has) [
        | inl pushed ↦ elim (first.0 pushed) [
          | inl before ↦ inl before
          | inr of ↦ inr (below_rises wave s top barred e of)
        ]
        | inr at ↦ inr (rises wave s top below each barred at.0 (omega (arith, size)) e at.2.1)
      ],
      λ o. elim o [
        | inl before ↦ i.1 (inl (first.1 (inl before)))
        | inr end ↦
            (let at = sinks wave s top below each known barred e end in
            let node = get_or below at.0 (Worker 0) in
            let hangs = (each node).0 (Contains-get_or below at.0 (Worker 0) at.1) in
            let bar = c.requires.bars.each node hangs.known in
            elim (cases_Bool (bar_at c.args.bars.now node)) [
              | inl marked ↦ i.1 (inr (at.0, omega (arith, size), (bar.0 marked, at.2)))
              | inr unmarked ↦
                  (let free : HasBarUnder wave s node → ⊥ = (λ b. false≢true (sym unmarked ∙ bar.1 b)) in
                  let is = only_top wave s (end_below top below at.0) e free at.2 in
                  i.1 (inl (first.1 (inr (subst (λ e. IsOf wave.tree (HasBarUnder wave s) (Below top.node top.level) e) is
                  ((hangs, free), refl))))))
            ])
      ],
    ))
