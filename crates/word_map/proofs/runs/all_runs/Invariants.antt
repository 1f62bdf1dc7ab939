use Rattle.std.proofs.Common.{◌≡◌, ℕ, ◌<◌, ◌≤◌, get_or, length, Vec}
use Rattle.std.specs.Arc.{arc_value}
use Rattle.std.specs.declared.alloc.Global.{Global}
use Rattle.word_map.specs.Divided.{AreRunEntries}
use Rattle.word_map.specs.Entries.{EntryView}
use Rattle.word_map.proofs.RunsLemmas.{AreRunsBefore}
use Rattle.word_map.proofs.runs.all_runs.Given as goal

abbrev pub invariant-loop-part : goal.invariant-loop-part
invariant-loop-part l = record {
  count : length l.divided.items ≡ l.parts;
  left : (part : ℕ) (d : Vec EntryView Global) → l.part ≤ part → part < l.parts →
      AreRunEntries (arc_value l.text).documents part l.parts (get_or l.divided.items part d).items;
  made : AreRunsBefore (arc_value l.text) l.parts l.part l.runs.items;
}
