use Rattle.std.proofs.Common.{◌≡◌, take, map}
use Rattle.master_core.proofs.holders.first_holders.Given as goal

abbrev pub invariant-loop-line : goal.invariant-loop-line
invariant-loop-line l = l.holders ≡ map (λ split. split.holders) (take l.line-index l.line-items)
