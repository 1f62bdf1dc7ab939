use Rattle.std.proofs.Common.{◌≡◌, ◌∙◌, refl, subst, sym}
use Rattle.std.proofs.lemmas.Bool.{false≢true}
use Rattle.rack_tree.specs.Tree.{Tree}
use Rattle.tree_flow.specs.declared.nodes.End.{End}
use Rattle.tree_planner.specs.Ends.{IsBarred, IsLeft, IsOf}
use Rattle.tree_planner.specs.SearchingBack.{wave_of, IsInto}
use Rattle.tree_planner.proofs.Tops.{end_same}
use Rattle.tree_planner.proofs.back.over_group.Goals as goal

pub over_at-requires-clause-is_end : goal.over_at-requires-clause-is_end
over_at-requires-clause-is_end c =
    let tree = (wave_of c.args.hollow.now).tree in
    c.requires.group c.in-Single.end
    (subst (λ g. IsOf tree (IsBarred tree c.args.ends.now.barred) g c.in-Single.end) (sym c.in-Single.is) refl)

pub step_over-requires-clause-is_end : goal.step_over-requires-clause-is_end
step_over-requires-clause-is_end c =
    let tree = (wave_of c.args.hollow.now).tree in
    let barred = c.args.ends.now.barred in
    let end : End = record { node = c.args.node; level = c.in-Below.level } in
    c.requires.group end (subst (λ g. IsOf tree (IsBarred tree barred) g end) (sym c.in-Below.is) (
      subst (λ (t : Tree). IsLeft t (IsBarred t barred) c.in-Below.top c.args.node) c.tree.ensures.tree
          (c.is_left.ensures.0 c.if-is_left.true),
      refl,
    ))

pub returns-else-is_left-clause-over : goal.returns-else-is_left-clause-over
returns-else-is_left-clause-over c = λ x of.
    (let tree = (wave_of c.args.hollow.now).tree in
    let barred = c.args.ends.now.barred in
    let top = c.in-Below.top in
    let o = subst (λ g. IsOf tree (IsBarred tree barred) g x) c.in-Below.is of in
    let off : x.node ≡ c.args.node → ⊥ = (λ is. false≢true (sym c.if-is_left.false ∙ c.is_left.ensures.1
    (subst (λ (t : Tree). IsLeft t (IsBarred t barred) top c.args.node) (sym c.tree.ensures.tree)
    (subst (λ v. IsLeft tree (IsBarred tree barred) top v) is o.0)))) in
    record {
      over = λ e stands is. absurd (off is);
      waits = λ waits is. absurd (off is);
    })

pub returns-then-is_left-clause-over : goal.returns-then-is_left-clause-over
returns-then-is_left-clause-over c = λ x of.
    (let h = c.args.hollow.now in
    let end : End = record { node = c.args.node; level = c.in-Below.level } in
    let o = subst (λ g. IsOf (wave_of h).tree (IsBarred (wave_of h).tree c.args.ends.now.barred) g x)
    c.in-Below.is of in
    let same : x.node ≡ c.args.node → IsInto h c.step_over.new.search c.args.node c.args.split x =
    (λ is. subst (λ x. IsInto h c.step_over.new.search c.args.node c.args.split x)
    (end_same end x (sym is) (sym o.1)) c.step_over.ensures.over) in
    record {
      over = λ e stands is. (same is).over e stands is;
      waits = λ waits is. (same is).waits waits is;
    })
