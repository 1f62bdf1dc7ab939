use Rattle.master_core.proofs.Touching.{stays_then}
use Rattle.master_core.proofs.touched.Touched.touch.Goals as goal

pub returns-clause-split : goal.returns-clause-split
returns-clause-split c = c.touch_worker.ensures.before.splits _ c.touch_split.ensures.here

pub returns-clause-before : goal.returns-clause-before
returns-clause-before c = stays_then _ _ _ c.touch_split.ensures.before c.touch_worker.ensures.before
