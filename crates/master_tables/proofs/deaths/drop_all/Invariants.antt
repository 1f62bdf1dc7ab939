use Rattle.std.proofs.Common.{◌≡◌}
use Rattle.master_tables.specs.Ends.{without_all}
use Rattle.master_tables.proofs.Together.{front_changed}
use Rattle.master_tables.proofs.deaths.drop_all.Given as goal

abbrev pub invariant-loop-i : goal.invariant-loop-i
invariant-loop-i l = l.holders ≡ front_changed (without_all l.dead) l.i l.fn.holders
