use Rattle.std.proofs.Common.{◌≡◌, ℕ, List, subst}
use Rattle.std.specs.Prelude.{Contains}
use Rattle.std.proofs.lemmas.Result.{on_ok_weaker}
use Rattle.word_map.specs.Entries.{pairs_of_entry}
use Rattle.word_map.specs.Table.{AddsPairs, views}
use Rattle.word_map.proofs.TableLemmas.{adds_pairs, adds_entry}
use Rattle.word_map.proofs.table.WordTable.add_entry.Goals as goal

-- what the table has more, the view has more
pub returns : goal.returns
returns c =
    on_ok_weaker c.add_documents.result
    (λ adds. subst (λ v. AddsPairs v (views c.add_documents.new.table.entries)
    (Contains (pairs_of_entry c.args.entry.now))) c.self.view_is
    (adds_entry c.args.entry.now (adds_pairs (λ (w : List ℕ) (k : ℕ). (w ≡ c.args.entry.now.word)
    × Contains c.args.entry.now.documents k) c.self.invariant
    (c.add_documents.ensures.table c.self.invariant) adds)))
    (rw (c.new-word.ensures, c.word.ensures, c.documents.ensures) at c.add_documents.ensures.added)
