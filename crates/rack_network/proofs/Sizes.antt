-- No node has more free slots under it than the cluster has.
use Rattle.std.proofs.Common.{ℕ, zero, suc, ◌≤◌, Bool, true, false, cond, length, arith}
use Rattle.std.specs.Prelude.{◌==◌}
use Rattle.wave_problem.specs.Wave.{Wave}
use Rattle.rack_network.specs.declared.network.TheConstants.{MAX_SLOTS}
use Rattle.rack_network.specs.Racks.{above, slots, slots_of}
use Rattle.rack_network.specs.Build.{IsSmallWave}

cond-le : (b : Bool) (x : ℕ) → cond b x 0 ≤ x
cond-le true x = omega arith
cond-le false x = omega arith

pub slots-le : (wave : Wave) (n level i : ℕ) → slots wave n level i ≤ slots wave n 3 0
slots-le wave zero level i = omega arith
slots-le wave (suc n) level i =
    let before = slots-le wave n level i in
    let here = cond-le (above wave level n == i) (slots_of wave n) in
    omega arith

pub slots_few : (wave : Wave) (level i : ℕ) → IsSmallWave wave
    → slots wave (length wave.workers) level i ≤ MAX_SLOTS
slots_few wave level i small =
    let most = slots-le wave (length wave.workers) level i in
    let few = small.few_slots in
    omega arith
