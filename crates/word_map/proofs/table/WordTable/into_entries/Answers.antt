use Rattle.std.specs.Prelude.{◌↔◌, Contains}
use Rattle.std.proofs.Common.{subst, sym, ◌∙◌}
use Rattle.std.proofs.lemmas.Bool.{false≢true}
use Rattle.word_map.specs.Entries.{HavePair, pairs_of_index}
use Rattle.word_map.proofs.SortedLemmas.{table_has_pair}
use Rattle.word_map.proofs.TableLemmas.{pairs_of_reordered}
use Rattle.word_map.proofs.table.WordTable.into_entries.Goals as goal

-- a sort moves the words
pub returns-clause-same : goal.returns-clause-same
returns-clause-same g c = λ pair.
    let moved =
    pairs_of_reordered c.self.inside.table.entries c.sort_words.new.table.entries
    c.in_ok-sort_words.ensures.reordered.0 pair in
    let made = c.in_ok-sorted_entries.ensures.same pair in
    subst (λ v. Contains (pairs_of_index c.in_ok-sorted_entries.field-0.items) pair ↔ Contains
    (pairs_of_index v) pair) c.self.view_is
    ((λ h. moved.1 (made.0 h)), (λ h. made.1 (moved.0 h)))

-- a table without words has no pairs
-- what wants memory has a word
pub returns-in_err-sort_words-clause-memory : goal.returns-in_err-sort_words-clause-memory
returns-in_err-sort_words-clause-memory g c err = subst HavePair c.self.view_is
    (table_has_pair c.self.inside.table c.self.invariant (λ none. false≢true (sym c.if-is_empty.false
    ∙ c.is_empty.ensures.1 none)))

pub returns-in_err-sorted_entries-clause-memory : goal.returns-in_err-sorted_entries-clause-memory
returns-in_err-sorted_entries-clause-memory g c err = subst HavePair c.self.view_is
    (table_has_pair c.self.inside.table c.self.invariant (λ none. false≢true (sym c.if-is_empty.false
    ∙ c.is_empty.ensures.1 none)))
