use Rattle.std.proofs.Common.{◌≡◌, ◌<◌, All, length, map}
use Rattle.std.specs.Prelude.{IfSome, vec_capacity}
use Rattle.master_state.specs.Steps.{worker_line}
use Rattle.master_core.proofs.Heads.{AreHeadsSoFar}
use Rattle.master_core.proofs.ahead.heads_of.Given as goal

abbrev pub invariant-loop-s : goal.invariant-loop-s
invariant-loop-s l = record {
  heads : AreHeadsSoFar (map worker_line l.workers) l.left.items l.plan.starts l.starts.items l.s;
  known : All (λ start. IfSome start (λ w. w < l.plan.workers)) l.starts.items;
  room : vec_capacity l.starts ≡ length l.plan.starts;
}
