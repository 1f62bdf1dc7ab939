use Rattle.std.proofs.Common.{◌+◌, ◌≤◌, take}
use Rattle.hand_ledger.specs.Marks.{AreNonePast}
use Rattle.hand_ledger.specs.Settling.{all_calls}
use Rattle.hand_ledger.proofs.settling.last_place.Given as goal

abbrev pub invariant-loop-hand : goal.invariant-loop-hand
invariant-loop-hand g l = record {
  most : l.last ≤ 1048577;
  events : l.events + 1 ≤ l.last;
  calls : AreNonePast l.last (all_calls (take l.hand-index l.hands));
}
