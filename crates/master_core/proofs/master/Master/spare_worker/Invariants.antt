use Rattle.std.proofs.Common.{ℕ, ◌≡◌, ◌<◌, true}
use Rattle.master_core.specs.Backups.{is_spare}
use Rattle.master_core.proofs.master.Master.spare_worker.Given as goal

abbrev pub invariant-loop-number : goal.invariant-loop-number
invariant-loop-number l = (w : ℕ) → w < l.number → is_spare l.self.state l.split w ≡ true → ⊥
