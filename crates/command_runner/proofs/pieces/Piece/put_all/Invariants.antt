use Rattle.std.proofs.Common.{◌++◌, take}
use Rattle.std.specs.List.{flat_map}
use Rattle.text_lines.specs.Streams.{Moves}
use Rattle.command_runner.proofs.pieces.Piece.put_all.Given as goal

abbrev pub invariant-loop-text : goal.invariant-loop-text
invariant-loop-text g l =
    Moves (g.W.Write.contents l.initial.writer) (g.W.Write.contents l.writer)
    (l.initial.self ++ flat_map (λ text. text.now) (take l.text-index l.texts)) l.self
