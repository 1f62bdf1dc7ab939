use Rattle.std.proofs.Common.{◌≡◌, ℕ, ◌↔◌, ◌⊎◌, ◌∙◌, ap, sym, subst, arith, inl, inr}
use Rattle.std.proofs.lemmas.List.{get_or_read}
use Rattle.rack_tree.specs.Tree.{Tree, reach}
use Rattle.tree_planner.specs.Bars.{holder_at, HasEndFor, IsLevelEnd, IsTopEnd}
use Rattle.tree_flow.specs.Nodes.{node_above}
use Rattle.tree_planner.proofs.Tops.{join_below}
use Rattle.tree_planner.proofs.split_ends.add_holder.Goals as goal

pub loop-level-preserved : goal.loop-level-preserved
loop-level-preserved c = λ e.
    (let wave = c.args.problem.now in
    let s = c.args.split in
    let at = c.node_above.ensures.node
    ∙ ap (λ (t : Tree). node_above t c.loop-level.level c.index-holders-k.result) c.tree-in-loop-level.ensures.tree in
    join_below (λ (k : ℕ). IsTopEnd wave s (record { node = node_above wave.tree k c.index-holders-k.result; level = k }) e)
    c.loop-level.level (subst (λ v. HasEndFor wave s c.add_top.new.groups.items e
    ↔ (HasEndFor wave s c.loop-level.groups.items e ⊎ IsTopEnd wave s (record { node = v; level = c.loop-level.level }) e)) at
    (c.in_ok-add_top.ensures e)) (c.loop-level.invariant e))

pub returns : goal.returns
returns c = λ e.
    (let wave = c.args.problem.now in
    let s = c.args.split in
    let holder = c.index-holders-k.result in
    let i = c.loop-level.invariant e in
    let live = c.if-not-is_live.false in
    let most = c.reach.ensures.reach in
    let same = ap (λ (t : Tree). reach t) c.tree.ensures.tree in
    let end = c.loop-level.auto.level-end in
    let past = c.loop-level-test.false in
    let here : holder ≡ holder_at c.args.holders.now c.args.k =
    get_or_read c.args.holders.now c.args.k holder c.requires.holder c.index-holders-k.is 0 in
    subst (λ h. HasEndFor wave s c.loop-level.groups.items e ↔ (HasEndFor wave s c.args.groups.now.items e ⊎ IsLevelEnd wave s h e)) here (
      λ has. elim (i.0 has) [
        | inl before ↦ inl before
        | inr t ↦ (let few = t.1 in inr (record {
          live = sym c.is_live.ensures ∙ c.if-not-is_live.false;
          level = t.0;
          within = omega arith;
          top = t.2;
        }))
      ],
      λ o. elim o [
        | inl before ↦ i.1 (inl before)
        | inr t ↦ (let within = t.within in i.1 (inr (t.level, omega arith, t.top)))
      ],
    ))

pub loop-level-preserved-then-is_met : goal.loop-level-preserved-then-is_met
loop-level-preserved-then-is_met c = λ e.
    (let wave = c.args.problem.now in
    let s = c.args.split in
    let holder = c.index-holders-k.result in
    let level = c.loop-level.level in
    let most = c.reach.ensures.reach in
    let same = ap (λ (t : Tree). reach t) c.tree.ensures.tree in
    let more = c.loop-level-test.true in
    let at = c.node_above.ensures.node
    ∙ ap (λ (t : Tree). node_above t level holder) c.tree-in-loop-level.ensures.tree in
    let met = c.is_met.ensures c.if-is_met.true in
    let i = c.loop-level.invariant e in
    join_below (λ (k : ℕ). IsTopEnd wave s (record { node = node_above wave.tree k holder; level = k }) e) level (
      λ has. inl has,
      λ o. elim o [
        | inl has ↦ has
        | inr end ↦ i.1 (inl (c.requires.before met.0 e met.1 (record {
          live = met.2.live;
          level = level;
          within = omega arith;
          top = subst (λ v. IsTopEnd wave s (record { node = v; level = level }) e) (sym (met.2.above ∙ at)) end;
        })))
      ],
    ) i)
