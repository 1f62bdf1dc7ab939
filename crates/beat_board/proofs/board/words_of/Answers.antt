use Rattle.std.proofs.Common.{arith, sym, ◌∙◌}
use Rattle.std.specs.Slots.{slots_counts}
use Rattle.beat_board.proofs.Gathers.{filled, all_filled}
use Rattle.beat_board.proofs.board.words_of.Goals as goal

pub loop-worker-preserved : goal.loop-worker-preserved
loop-worker-preserved c =
    filled c.loop-worker.beats _ c.loop-worker.worker c.word.result c.loop-worker.invariant.0
    (omega arith) c.word.ensures c.loop-worker.invariant.1

pub returns : goal.returns
returns c =
    let i = c.loop-worker.invariant in
    all_filled c.loop-worker.beats _ i.0 (sym (slots_counts c.args.closed.now.words).0 ∙ c.requires.1)
    (λ k lt. i.1 k (omega arith))
