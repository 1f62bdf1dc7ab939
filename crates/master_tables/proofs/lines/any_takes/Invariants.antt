use Rattle.std.proofs.Common.{ℕ, ◌<◌, ◌≤◌}
use Rattle.master_tables.specs.Lines.{Takes}
use Rattle.master_tables.proofs.lines.any_takes.Given as goal

abbrev pub invariant-loop-w : goal.invariant-loop-w
invariant-loop-w l = (k : ℕ) → k < l.w → l.fn.first ≤ k → Takes l.table l.split k → ⊥
