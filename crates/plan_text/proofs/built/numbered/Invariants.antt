use Rattle.std.proofs.Common.{◌≡◌, ◌≤◌, length, take, vec_capacity}
use Rattle.plan_text.proofs.built.numbered.Given as goal

abbrev pub invariant-loop-number : goal.invariant-loop-number
invariant-loop-number l =
    (l.workers.items ≡ take l.number-index l.numbers) × (length l.numbers ≤ vec_capacity l.workers)
