use Rattle.std.proofs.Common.{None, Option, Some}
use Rattle.std.specs.Prelude.{IfSome}
use Rattle.std.specs.List.{AllByRecursion}
use Rattle.master_state.specs.declared.states.Attempt.{Attempt}
use Rattle.master_state.specs.declared.states.SplitState.TheVariants.{Running}
use Rattle.master_state.specs.Tests.{attempts_of}
use Rattle.master_core.specs.declared.touched.Touched.{Touched}
use Rattle.master_core.specs.Near.{IsWorkerTouched}
use Rattle.master_core.proofs.Touching.{stays_then}
use Rattle.master_core.proofs.touched.Touched.touch_running.Goals as goal

-- the workers of all attempts that a split runs
both_touched : (touched : Touched) (one : Attempt) (second : Option Attempt) →
    IsWorkerTouched touched one.worker → IfSome second (λ attempt. IsWorkerTouched touched attempt.worker) →
    AllByRecursion (λ attempt. IsWorkerTouched touched attempt.worker) (attempts_of (Running one second))
both_touched touched one None first later = (first, tt)
both_touched touched one (Some other) first later = (first, (later, tt))

pub returns-in-Running-clause-split : goal.returns-in-Running-clause-split
returns-in-Running-clause-split c =
    c.touch_second.ensures.before.splits _ (c.touch_worker.ensures.before.splits _ c.touch_split.ensures.here)

pub returns-in-Running-clause-workers : goal.returns-in-Running-clause-workers
returns-in-Running-clause-workers c = rw c.in-Running.is (
    both_touched c.touch_second.new.self _ _
    (c.touch_second.ensures.before.workers _ c.touch_worker.ensures.here) c.touch_second.ensures.worker
    )

pub returns-in-Running-clause-before : goal.returns-in-Running-clause-before
returns-in-Running-clause-before c =
    stays_then _ _ _ (stays_then _ _ _ c.touch_split.ensures.before c.touch_worker.ensures.before)
    c.touch_second.ensures.before
