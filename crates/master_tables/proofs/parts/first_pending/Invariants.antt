use Rattle.std.proofs.Common.{◌≡◌, ℕ, ◌<◌, false, get_or}
use Rattle.master_state.specs.declared.states.PartState.{PartState}
use Rattle.master_state.specs.Tests.{part_is_pending}
use Rattle.master_tables.proofs.parts.first_pending.Given as goal

abbrev pub invariant-loop-i : goal.invariant-loop-i
invariant-loop-i l = (k : ℕ) (d : PartState) → k < l.i → part_is_pending (get_or l.parts k d) ≡ false
