use Rattle.std.proofs.Common.{◌++◌}
use Rattle.std.specs.List.{flat_map}
use Rattle.text_lines.specs.Streams.{Moves}
use Rattle.block_map.specs.Copies.{copies_below, holdings}
use Rattle.report_lines.specs.Lines.{copy_line}
use Rattle.report_lines.proofs.turns.put_copies.Given as goal

abbrev pub invariant-loop-number : goal.invariant-loop-number
invariant-loop-number g l =
    let h = holdings l.tables.workers l.story.tree l.tables.holders l.story.target in
    Moves (g.W.Write.contents l.initial.writer) (g.W.Write.contents l.writer)
    (l.initial.piece ++ flat_map (copy_line l.splits l.workers) (copies_below h l.number)) l.piece
