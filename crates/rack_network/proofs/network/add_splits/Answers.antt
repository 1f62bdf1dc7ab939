use Rattle.std.proofs.Common.{◌≡◌, ℕ, ◌+◌, sym, ◌∙◌, subst, arith}
use Rattle.rack_network.specs.Build.{IsBuilt}
use Rattle.rack_network.proofs.Rows.{idle_row}
use Rattle.rack_network.proofs.network.add_splits.Goals as goal
use Rattle.rack_network.proofs.network.add_splits.Goals.{then-is_pending+in_ok-add_split, else-is_pending}

pub loop-i-preserved : goal.loop-i-preserved
loop-i-preserved c =
    let wave = c.args.problem.now in
    let split : ℕ = c.new-split.result in
    let same : split ≡ c.loop-i.i = omega arith in
    elim c.if-is_pending.branch [
      | then-is_pending+in_ok-add_split w ↦ rw w.network-is
          (subst (λ (s : ℕ). IsBuilt wave (s + 1) 0 w.add_split.new.network) same w.in_ok-add_split.ensures)
      | else-is_pending w ↦ rw w.network-is
          (subst (λ (s : ℕ). IsBuilt wave (s + 1) 0 c.loop-i.network) same
          (idle_row wave split _ _ c.loop-i.network (omega arith) (omega arith)
          (sym c.is_pending.ensures ∙ w.if-is_pending.false)
          (subst (λ (s : ℕ). IsBuilt wave s 0 c.loop-i.network) (sym same) c.loop-i.invariant)))
    ]
