use Rattle.std.proofs.Common.{◌≡◌}
use Rattle.direct_network.proofs.network.make_room_for_workers.Given as goal

abbrev pub invariant-loop-i : goal.invariant-loop-i
invariant-loop-i l = l.network ≡ l.initial.network
