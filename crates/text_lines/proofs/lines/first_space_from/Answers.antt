use Rattle.std.proofs.Common.{◌≡◌, ◌==◌, arith, get_or, rules, true}
use Rattle.text_lines.proofs.FirstByte.{position-at, position-nowhere}
use Rattle.text_lines.proofs.lines.first_space_from.Goals as goal

pub returns-then-line-at-eq32 : goal.returns-then-line-at-eq32
returns-then-line-at-eq32 c =
    let space : (get_or c.args.line.now c.loop-at.at 0 == 32) ≡ true = search rules in
    position-at (λ b. b == 32) c.args.line.now c.loop-at.at c.loop-at-test.true c.loop-at.invariant space

pub returns : goal.returns
returns c =
    position-nowhere (λ b. b == 32) c.args.line.now
    (λ j lt. c.loop-at.invariant j (omega (arith, lt, c.loop-at-test.false)))
