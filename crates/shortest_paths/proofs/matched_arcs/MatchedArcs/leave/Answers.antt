use Rattle.std.proofs.Common.{◌≡◌, ℕ, List, length, ap, sym, ◌∙◌, subst, arith}
use Rattle.std.specs.Prelude.{nat_eq}
use Rattle.std.specs.List.{IsDistinct}
use Rattle.shortest_paths.specs.Matched.{Leaves}
use Rattle.shortest_paths.proofs.Following.{leaves_at, leaves_nowhere}
use Rattle.shortest_paths.proofs.matched_arcs.MatchedArcs.leave.Goals as goal

pub returns-then-index-arc : goal.returns-then-index-arc
returns-then-index-arc c = λ d.
    let xs : List ℕ = c.loop-i.self-inside.0.items in
    let same : xs ≡ c.args.self.now = c.loop-i.invariant.same in
    let size : length xs ≡ length c.self.inside.0.items = ap length (same ∙ sym c.self.view_is) in
    let end = c.len-i-end.ensures in
    let left = c.loop-i-test.true in
    subst (λ (ys : List ℕ). Leaves ys c.args.arc c.swap_remove.new.self.items) same
    (leaves_at xs c.swap_remove.new.self.items c.loop-i.i c.args.arc c.swap_remove.result c.index.result.now
    (omega arith) c.index.ensures c.if-index-arc.true c.swap_remove.ensures.value c.swap_remove.ensures.items
    (subst (λ (ys : List ℕ). IsDistinct nat_eq ys) (sym same) d))

pub returns : goal.returns
returns c = λ d.
    let same : c.loop-i.self-inside.0.items ≡ c.args.self.now = c.loop-i.invariant.same in
    let size = ap length c.self.view_is in
    let end = c.len-i-end.ensures in
    let past = c.loop-i-test.false in
    rw same (leaves_nowhere c.args.self.now c.args.arc
    (λ j l. c.loop-i.invariant.before j (omega arith)) d)
