use Rattle.std.proofs.Common.{◌≡◌, ◌≤◌, drop, take}
use Rattle.std.specs.Prelude.{fold}
use Rattle.report_lines.specs.declared.tables.Tables.{Tables}
use Rattle.report_lines.specs.Past.{MayAllCome, replayed}
use Rattle.report_lines.proofs.replaying.go_on.Given as goal

abbrev pub invariant-loop-index : goal.invariant-loop-index
invariant-loop-index l = record {
  within : l.index ≤ l.to;
  tables : (opening : Tables)
      → l.initial.tables ≡ fold (replayed l.story.sweeps.items) opening (take l.from l.story.history.items)
      → l.tables ≡ fold (replayed l.story.sweeps.items) opening (take l.index l.story.history.items);
  may : MayAllCome l.story.tree l.story.limit l.story.sweeps.items l.tables
      (drop l.index l.story.history.items);
}
