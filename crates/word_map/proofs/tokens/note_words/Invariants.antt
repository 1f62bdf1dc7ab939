use Rattle.std.proofs.Common.{◌-◌, length}
use Rattle.word_map.specs.Entries.{pairs_of_index}
use Rattle.word_map.proofs.RunLemmas.{BeginsRun, AddsRunsBefore}
use Rattle.word_map.proofs.tokens.note_words.Given as goal

abbrev pub invariant-loop-start : goal.invariant-loop-start
invariant-loop-start g l = record {
  begins : BeginsRun l.text l.start;
  adds : AddsRunsBefore (pairs_of_index l.fn.table) (pairs_of_index l.table) l.text l.document l.start;
}

abbrev pub decreases-loop-start : goal.decreases-loop-start
decreases-loop-start g l = length l.text - l.start
