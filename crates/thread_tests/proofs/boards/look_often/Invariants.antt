use Rattle.std.proofs.Common.{◌≡◌}
use Rattle.std.specs.Prelude.{IsTrue}
use Rattle.beat_board.specs.Values.{last_seen}
use Rattle.thread_tests.proofs.boards.look_often.Given as goal

abbrev pub invariant-loop : goal.invariant-loop
invariant-loop l = (l.reader.board ≡ l.board.board) × IsTrue l.rose
    × (l.last ≡ last_seen l.worker l.reader.looks)
