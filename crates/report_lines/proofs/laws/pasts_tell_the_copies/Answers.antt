use Rattle.report_lines.proofs.Told.{later_pasts_tell_the_same, legal_histories_are_pasts}
use Rattle.report_lines.proofs.Told as told
use Rattle.report_lines.proofs.laws.pasts_tell_the_copies.Goals as goal

pub returns-clause-pasts : goal.returns-clause-pasts
returns-clause-pasts c = legal_histories_are_pasts

pub returns-clause-copies : goal.returns-clause-copies
returns-clause-copies c = told.pasts_tell_the_copies

pub returns-clause-later : goal.returns-clause-later
returns-clause-later c = later_pasts_tell_the_same
