-- A text that is played has ends of a script, or one fault.
-- (Proved here, since an impl cites its own crate's specs alone.)
use Rattle.std.proofs.Common.{Ok, Err}
use Rattle.line_rules.specs.declared.purpose.Purpose.TheVariants.{Playing}
use Rattle.line_rules.proofs.OneReading.{reads-faultless}
use Rattle.command_runner.specs.CommandRun.{HasOneAnswer, AnyLines}
use Rattle.line_rules.proofs.OneFault.{one_fault}
use Rattle.job_play.specs.PlayAnswer.{AreEnds, PlayAnswer}

-- all ends of a text are ends of a script, or all are one fault
pub one_play_answer : HasOneAnswer PlayAnswer AreEnds AnyLines
one_play_answer text (Ok a) (Ok b) x y g h = (tt, tt)
one_play_answer text (Ok a) (Err f) x y g h =
    absurd (reads-faultless Playing text g.read.statements f.line f.number g.read.reads h.least)
one_play_answer text (Err f) (Ok b) x y g h =
    absurd (reads-faultless Playing text h.read.statements f.line f.number h.read.reads g.least)
one_play_answer text (Err f) (Err g) x y p q =
    let one = one_fault Playing text f g x y p q in (one.0, tt)
