-- A text that is run has ends of a job, or one fault.
-- (Proved here, since an impl cites its own crate's specs alone.)
use Rattle.std.proofs.Common.{Bool, Ok, Err}
use Rattle.line_rules.specs.declared.purpose.Purpose.TheVariants.{Running}
use Rattle.line_rules.proofs.OneReading.{reads-faultless}
use Rattle.command_runner.specs.CommandRun.{HasOneAnswer, AnyLines}
use Rattle.line_rules.proofs.OneFault.{one_fault}
use Rattle.job_play.specs.PlayAnswer.{AreEnds}
use Rattle.job_run.specs.RunAnswer.{RunAnswer}

-- all ends of a text are ends of a job, or all are one fault
pub one_run_answer : (asked : Bool) → HasOneAnswer (RunAnswer asked) AreEnds AnyLines
one_run_answer asked text (Ok a) (Ok b) x y g h = (tt, tt)
one_run_answer asked text (Ok a) (Err f) x y g h =
    absurd (reads-faultless Running text g.read.statements f.line f.number g.read.reads h.least)
one_run_answer asked text (Err f) (Ok b) x y g h =
    absurd (reads-faultless Running text h.read.statements f.line f.number h.read.reads g.least)
one_run_answer asked text (Err f) (Err g) x y p q =
    let one = one_fault Running text f g x y p q in (one.0, tt)
