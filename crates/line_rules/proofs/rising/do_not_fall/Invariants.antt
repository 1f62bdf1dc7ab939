use Rattle.std.proofs.Common.{◌≤◌, map}
use Rattle.line_rules.proofs.Rises.{AreRisingTo}
use Rattle.line_rules.proofs.rising.do_not_fall.Given as goal

abbrev pub invariant-loop-i : goal.invariant-loop-i
invariant-loop-i l = record {
  past : 2 ≤ l.i;
  rising : AreRisingTo (map (λ w. w.now) l.words) l.i;
}
