use Rattle.std.proofs.Common.{◌≡◌}
use Rattle.job_threads.specs.Watching.{HaveFirstBeaten}
use Rattle.job_threads.proofs.beats.have_beaten.Given as goal

abbrev pub invariant-loop-number : goal.invariant-loop-number
invariant-loop-number l =
    (l.reader.board ≡ l.board.board) × HaveFirstBeaten l.number l.told l.reader.looks l.workers
