use Rattle.std.proofs.Common.{◌≡◌, ◌↔◌, ◌⊎◌, ◌∙◌, ℕ, ap, sym, subst, inl, inr}
use Rattle.std.specs.Prelude.{OnOk}
use Rattle.std.proofs.lemmas.List.{get_or_read}
use Rattle.rack_tree.specs.Tree.{Tree}
use Rattle.tree_flow.specs.declared.nodes.End.{End}
use Rattle.tree_flow.specs.Nodes.{node_above}
use Rattle.tree_planner.specs.Bars.{holder_at, top_of, HasEndFor, IsTopEnd}
use Rattle.tree_planner.proofs.split_ends.add_unmet.Goals as goal

pub returns-then-is_above_one : goal.returns-then-is_above_one
returns-then-is_above_one c = λ e.
    (let wave = c.args.problem.now in
    let s = c.args.split in
    let holders = c.args.holders.now in
    let met = c.is_above_one.ensures c.if-is_above_one.true in
    let here : c.index-holders-k.result ≡ holder_at holders c.args.k =
    get_or_read holders c.args.k c.index-holders-k.result c.requires.holder c.index-holders-k.is 0 in
    let node : node_above wave.tree c.args.level (holder_at holders met.0)
    ≡ node_above wave.tree c.args.level (holder_at holders c.args.k) =
    ap (λ (l : ℕ). node_above wave.tree l (holder_at holders met.0)) (sym c.end_above-top.ensures.level)
    ∙ met.2.above ∙ c.end_above-top.ensures.node
    ∙ ap (λ (t : Tree). node_above t c.args.level c.index-holders-k.result) c.tree.ensures.tree
    ∙ ap (λ (h : ℕ). node_above wave.tree c.args.level h) here in (
      λ has. inl has,
      λ o. elim o [
        | inl has ↦ has
        | inr end ↦ c.requires.before met.0 e met.1 (record {
          live = met.2.live;
          level = c.args.level;
          within = c.requires.within;
          top = subst (λ v. IsTopEnd wave s (record { node = v; level = c.args.level }) e) (sym node) end;
        })
      ],
    ))

pub returns : goal.returns
returns c =
    let wave = c.args.problem.now in
    let s = c.args.split in
    let holders = c.args.holders.now in
    let here : c.index-holders-k-2.result ≡ holder_at holders c.args.k =
    get_or_read holders c.args.k c.index-holders-k-2.result c.requires.holder c.index-holders-k-2.is 0 in
    subst (λ h. OnOk c.add_single.result ((e : End) → HasEndFor wave s c.add_single.new.groups.items e
    ↔ (HasEndFor wave s c.args.groups.now.items e ⊎ IsTopEnd wave s (top_of wave h c.args.level) e))) here
    c.add_single.ensures
