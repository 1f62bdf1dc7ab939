use Rattle.std.proofs.Common.{arith}
use Rattle.line_rules.proofs.rows.have_marks.Goals as goal

pub returns-clause-named : goal.returns-clause-named
returns-clause-named c _ k d lt =
    let seen = c.loop-i.invariant.0 k d (omega (arith, lt, c.loop-i-test.false)) in
    (seen.some, (seen.number, seen.is))
