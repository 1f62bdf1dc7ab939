use Rattle.std.proofs.Common.{◌+◌, ◌++◌, ◌∷◌, [], ℕ, List, refl, slice_index, subst, sym, arith}
use Rattle.tree_flow.proofs.Under.{stands_known}
use Rattle.tree_planner.specs.Handing.{AreStanding}
use Rattle.tree_planner.specs.View.{state_of}
use Rattle.tree_planner.proofs.Added.{over_sized}
use Rattle.tree_planner.proofs.Known.{is_known}
use Rattle.tree_planner.proofs.Starts.{all_handed, first_handed, next_has_unit, one_handed, AreFirstHanded}
use Rattle.tree_planner.proofs.hand_down.all_starts.Goals as goal

pub stood_at-end-requires-clause-split : goal.stood_at-end-requires-clause-split
stood_at-end-requires-clause-split c =
    let state = state_of c.args.tables.now in
    let row = c.deref-split-items.result.now in
    let k = c.loop-split.split-index in
    let all = subst (AreStanding state) (sym c.deref-split-items.ensures.value) c.in_ok-standing.ensures in
    let found = all.each k 0 c.loop-split-test.true in
    stands_known state (slice_index row k) found.0 found.1

pub stood_at-end-requires-clause-stands : goal.stood_at-end-requires-clause-stands
stood_at-end-requires-clause-stands c =
    let state = state_of c.args.tables.now in
    let all = subst (AreStanding state) (sym c.deref-split-items.ensures.value) c.in_ok-standing.ensures in
    all.each c.loop-split.split-index 0 c.loop-split-test.true

pub go_down-worker-requires-clause-known : goal.go_down-worker-requires-clause-known
go_down-worker-requires-clause-known c =
    c.requires.tables.known (slice_index c.deref-split-items.result.now c.loop-split.split-index)
    c.stood_at-end.result c.stood_at-end.ensures

pub go_down-worker-requires-clause-unit : goal.go_down-worker-requires-clause-unit
go_down-worker-requires-clause-unit c =
    let state = state_of c.args.tables.now in
    let row = c.deref-split-items.result.now in
    let k = c.loop-split.split-index in
    let all = subst (AreStanding state) (sym c.deref-split-items.ensures.value) c.in_ok-standing.ensures in
    next_has_unit c.args.problem.now state c.loop-split.left row k c.loop-split.pairs.items c.requires.kept
    c.requires.shipped all c.loop-split.invariant.handed c.loop-split-test.true (slice_index row k)
    c.stood_at-end.result refl c.stood_at-end.ensures

pub loop-split-init : goal.loop-split-init
loop-split-init c =
    let wave = c.args.problem.now in
    let state = state_of c.args.tables.now in
    let left = c.in_ok-left.left in
    let row = c.deref-split-items.result.now in
    record {
      over = over_sized wave.tree c.args.tables.now.flow left c.requires.tables.flow c.in_ok-left.ensures.size;
      handed = subst (λ (ps : List (ℕ × ℕ)). AreFirstHanded wave state left row 0 ps) (sym c.in_ok-pairs.ensures.items)
          (first_handed wave state left row c.requires.kept (c.in_ok-left.ensures.same 0)
          (subst (AreStanding state) (sym c.deref-split-items.ensures.value) c.in_ok-standing.ensures));
    }

pub loop-split-preserved : goal.loop-split-preserved
loop-split-preserved c =
    let wave = c.args.problem.now in
    let state = state_of c.args.tables.now in
    let row = c.deref-split-items.result.now in
    let k = c.loop-split.split-index in
    let old = c.loop-split.pairs.items in
    let down = c.go_down-worker.ensures in
    let new = c.go_down-worker.new.left in
    let all = subst (AreStanding state) (sym c.deref-split-items.ensures.value) c.in_ok-standing.ensures in
    record {
      over = down.over;
      handed = subst (λ (ps : List (ℕ × ℕ)). AreFirstHanded wave state new row (k + 1) ps)
          (sym c.in_ok-push.ensures.items)
          (subst (λ (m : ℕ). AreFirstHanded wave state new row (k + 1) (old ++ (c.new-number.result, m) ∷ []))
          (sym c.new-on.ensures)
          (subst (λ (n : ℕ). AreFirstHanded wave state new row (k + 1) (old ++ (n, c.go_down-worker.result) ∷ []))
          (sym c.new-number.ensures)
          (one_handed wave state c.loop-split.left row k old c.requires.kept c.requires.shipped all
          c.loop-split.invariant.handed c.loop-split-test.true new (slice_index row k) c.go_down-worker.result
          c.stood_at-end.result refl c.stood_at-end.ensures down.worker down.landed down.fell down.down)));
    }

pub returns : goal.returns
returns c =
    let state = state_of c.args.tables.now in
    let row = c.deref-split-items.result.now in
    all_handed c.args.problem.now state c.loop-split.left row c.loop-split.split-index c.loop-split.pairs.items
    c.requires.kept c.requires.shipped
    (subst (AreStanding state) (sym c.deref-split-items.ensures.value) c.in_ok-standing.ensures)
    c.loop-split.invariant.handed (is_known c.args.problem.now c.limits.ensures.problem c.limits.ensures.tree)
    (omega (arith, c.loop-split-test.false))
