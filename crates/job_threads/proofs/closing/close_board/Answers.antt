use Rattle.std.proofs.Common.{◌≡◌, [], ◌∷◌, arith}
use Rattle.std.proofs.lemmas.Grind.{common_steps}
use Rattle.job_threads.proofs.Halves.{counted}
use Rattle.job_threads.proofs.closing.close_board.Goals.{in-Ok-close, in-Err}
use Rattle.job_threads.proofs.closing.close_board.Goals as goal

pub returns-clause-beats : goal.returns-clause-beats
returns-clause-beats c =
    let readers : c.push_reserved.new.self.items ≡ c.args.reader ∷ [] = grind (arith, common_steps) in
    elim c.match-close.branch [
      | in-Ok-close w ↦ (
          let told = w.in-Ok-close.ensures in
          rw w.result-is (counted _ _ _ _ readers told.totals told.told told.seen)
          )
      | in-Err w ↦ rw w.result-is tt
    ]
