use Rattle.std.proofs.Common.{◌≡◌, ◌++◌, drop, map, take}
use Rattle.std.specs.Prelude.{fold}
use Rattle.text_lines.specs.Streams.{Moves}
use Rattle.report_lines.specs.Past.{MayAllCome, replayed}
use Rattle.report_lines.specs.Reports.{turns_lines}
use Rattle.report_lines.specs.Rising.{IsRising}
use Rattle.report_lines.specs.Turns.{told}
use Rattle.report_lines.proofs.turns.Turns.put.Given as goal

abbrev pub invariant-loop-turn : goal.invariant-loop-turn
invariant-loop-turn g l = record {
  tables : l.tables ≡ fold (replayed l.story.sweeps.items) l.initial.tables
      (take l.done l.story.history.items);
  may : MayAllCome l.story.tree l.story.limit l.story.sweeps.items l.tables
      (drop l.done l.story.history.items);
  rising : IsRising l.done (drop l.turn-index (map told l.turn-items)) l.self.seen;
  moved : Moves (g.W.Write.contents l.initial.writer) (g.W.Write.contents l.writer)
      (l.initial.piece ++ turns_lines l.splits l.workers l.fn.past
      (take l.turn-index (map told l.turn-items))) l.piece;
}
