use Rattle.std.proofs.Common.{◌≡◌, ◌*◌, ◌≤◌}
use Rattle.rack_network.specs.Racks.{slots}
use Rattle.rack_network.proofs.levels.slots.Given as goal

abbrev pub invariant-loop-i : goal.invariant-loop-i
invariant-loop-i l = (l.slots ≡ slots l.problem l.i l.level l.number) × (l.slots ≤ 255 * l.i)
