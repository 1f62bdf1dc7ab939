use Rattle.std.proofs.lemmas.List.{get_or-replicate}
use Rattle.beat_board.proofs.board.zeros.Goals as goal

pub returns-clause-zeros : goal.returns-clause-zeros
returns-clause-zeros c = λ k lt. get_or-replicate 1024 k 0 0 lt
