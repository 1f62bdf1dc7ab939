use Rattle.std.specs.Prelude.{replicate}
use Rattle.std.proofs.lemmas.List.{get_or-replicate}
use Rattle.hand_ledger.specs.declared.marks.Found.TheVariants.{Nowhere}
use Rattle.hand_ledger.specs.declared.marks.TheConstants.{PLACES}
use Rattle.hand_ledger.proofs.Marking.{marks_none}
use Rattle.hand_ledger.proofs.marks.nothing_found.Goals as goal

pub returns-clause-marks : goal.returns-clause-marks
returns-clause-marks c log first =
    marks_none log (replicate PLACES Nowhere) (λ n d lt. get_or-replicate PLACES n Nowhere d lt) first
