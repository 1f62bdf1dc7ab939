use Rattle.std.proofs.Common.{◌≡◌}
use Rattle.shared_master.proofs.shared.SharedMaster.plan_wave_with.Given as goal

abbrev pub invariant-loop-turn : goal.invariant-loop-turn
invariant-loop-turn g l = l.hand ≡ l.fn.hand
