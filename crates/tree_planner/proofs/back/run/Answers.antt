use Rattle.std.proofs.Common.{◌≡◌, ◌<◌, ◌≤◌, ◌∙◌, Option, Some, None, arith, refl, sym, subst, inl, inr}
use Rattle.std.specs.Prelude.{MatchOption}
use Rattle.std.proofs.lemmas.Bool.{cases_lt}
use Rattle.tree_flow.specs.declared.nodes.TreeNode.{TreeNode}
use Rattle.tree_planner.specs.declared.back.Hollow.{Hollow}
use Rattle.tree_planner.specs.declared.back.SearchBack.{SearchBack}
use Rattle.tree_planner.specs.SearchingBack.{far_at, order_at, HasLookedFrom, IsNearest}
use Rattle.tree_planner.proofs.ImprovedBack.{looked_kept}
use Rattle.tree_planner.proofs.LookedBack.{open_less}
use Rattle.tree_flow.proofs.Moved.{same_or_not}
use Rattle.tree_planner.proofs.back.run.Goals as goal

-- what the loop keeps of the node that comes next, if there is one
abbrev IsNext : Hollow → SearchBack → Option TreeNode → Type 0
IsNext h search next = MatchOption next ((v : TreeNode) → order_at search v ≡ 0 → search.bound ≤ far_at search v)
    (λ node. IsNearest h search node)

nearest_of : (h : Hollow) (search : SearchBack) (next : Option TreeNode) (node : TreeNode) → next ≡ Some node
    → IsNext h search next → IsNearest h search node
nearest_of h search next node is given = subst (λ next. IsNext h search next) is given

none_nearer : (h : Hollow) (search : SearchBack) (next : Option TreeNode)
    → ((node : TreeNode) → next ≡ Some node → ⊥) → IsNext h search next → (v : TreeNode) → order_at search v ≡ 0
    → search.bound ≤ far_at search v
none_nearer h search None none given = given
none_nearer h search (Some node) none given = absurd (none node refl)

pub loop-next-smaller : goal.loop-next-smaller
loop-next-smaller c =
    let settles = c.look_from.ensures.settles in
    let here = settles.here in
    let nearest = nearest_of c.args.hollow.now c.loop-next.search c.loop-next.next c.in-Some.node c.in-Some.is
    c.loop-next.invariant.next in
    let less = open_less c.loop-next.search c.look_from.new.search c.args.hollow.now.fixed.now.nodes.items
    c.in-Some.node (c.requires.hollow.fixed.nodes.each c.in-Some.node nearest.known) nearest.fresh
    (omega arith)
    settles.others in
    omega arith

pub loop-next-preserved : goal.loop-next-preserved
loop-next-preserved c =
    let h = c.args.hollow.now in
    let old = c.loop-next.search in
    let new = c.look_from.new.search in
    let settles = c.look_from.ensures.settles in
    let here = settles.here in
    let nearest = nearest_of c.args.hollow.now c.loop-next.search c.loop-next.next c.in-Some.node c.in-Some.is
    c.loop-next.invariant.next in
    let less = open_less old new h.fixed.now.nodes.items c.in-Some.node
    (c.requires.hollow.fixed.nodes.each c.in-Some.node nearest.known) nearest.fresh
    (omega arith) settles.others in
    record {
      hole = c.look_from.ensures.hole ∙ c.loop-next.invariant.hole;
      searching = c.look_from.ensures.searching;
      looked = λ u some. elim (same_or_not u c.in-Some.node) [
        | inl e ↦ subst (λ u. HasLookedFrom h new u) (sym e) c.look_from.ensures.looked
        | inr n ↦
            (let same = settles.others u n in
            let before : 0 < order_at old u = omega arith in
            looked_kept old new settles.nearer h u before (c.loop-next.invariant.looked u before))
      ];
      few = (let looked = settles.looked in let few = c.loop-next.invariant.few in omega arith);
      next = c.next_after-next.ensures;
    }

pub returns-clause-searched : goal.returns-clause-searched
returns-clause-searched c =
    let search = c.loop-next.search in
    record {
      searching = c.loop-next.invariant.searching;
      looked = λ u near. elim (cases_lt 0 (order_at search u)) [
        | inl some ↦ c.loop-next.invariant.looked u some
        | inr none ↦ absurd (let past = none_nearer c.args.hollow.now search c.loop-next.next (λ node. c.in_default.not-Some node)
            c.loop-next.invariant.next u (omega arith) in omega arith)
      ];
    }
