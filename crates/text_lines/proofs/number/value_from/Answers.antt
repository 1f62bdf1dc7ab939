use Rattle.std.proofs.Common.{ℕ, ◌^◌, ◌<◌, ◌≤◌, arith}
use Rattle.std.proofs.Math.Nat.{pow-le-pow_right}
use Rattle.std.proofs.lemmas.Grind.{common_steps}
use Rattle.text_lines.proofs.number.value_from.Goals as goal

short : (value i : ℕ) → value < 10 ^ i → i ≤ 18 → value < 1000000000000000000
short value i less few =
    let most : 10 ^ i ≤ 1000000000000000000 = pow-le-pow_right {n = 10} (omega arith) {i = i} {j = 18} few in
    omega (arith, less, most)

pub overflow_mul-value : goal.overflow_mul-value
overflow_mul-value c =
    let small = short c.loop-i.value c.loop-i.i c.loop-i.invariant.2
    (omega (arith, c.loop-i-test.true, c.if-bytes-gt-SHORT.false)) in
    omega (arith, small)

pub overflow_add-value : goal.overflow_add-value
overflow_add-value c =
    let small = short c.loop-i.value c.loop-i.i c.loop-i.invariant.2
    (omega (arith, c.loop-i-test.true, c.if-bytes-gt-SHORT.false)) in
    let byte = c.type_inv.bytes c.loop-i.i in
    omega (arith, small, byte, c.from.ensures)

pub loop-i-preserved : goal.loop-i-preserved
loop-i-preserved c = grind (arith, common_steps)
