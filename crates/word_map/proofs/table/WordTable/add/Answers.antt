use Rattle.std.proofs.Common.{◌<◌, length, subst, sym}
use Rattle.word_map.proofs.EntryLemmas.{have_pair}
use Rattle.word_map.proofs.TableLemmas.{adds_more}
use Rattle.word_map.proofs.table.WordTable.add.Goals as goal

-- one more entry
pub loop-entry-preserved : goal.loop-entry-preserved
loop-entry-preserved g c =
    adds_more c.args.entries.now c.loop-entry.entry-index c.entry-item.result c.loop-entry-test.true
    c.entry-item.is c.loop-entry.invariant c.in_ok-add_entry.ensures

-- the entry that wants memory has a document
pub returns-in_err-add_entry-clause-memory : goal.returns-in_err-add_entry-clause-memory
returns-in_err-add_entry-clause-memory g c err =
    have_pair c.args.entries.now c.entry-item.result (
      c.loop-entry.entry-index,
      c.loop-entry-test.true,
      sym c.entry-item.is,
    ) (subst (λ e. 0 < length e.documents) (sym c.entry-item.is)
    (c.requires.some c.loop-entry.entry-index c.entry-item.result c.loop-entry-test.true))
