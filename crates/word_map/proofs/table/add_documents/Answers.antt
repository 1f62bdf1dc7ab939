use Rattle.std.proofs.Common.{rules}
use Rattle.word_map.proofs.TableLemmas.{documents_more}
use Rattle.word_map.proofs.table.add_documents.Goals as goal

-- the documents of the word are more, those of the others stay
pub returns-in_ok-extend_from_slice-in-Some-clause-added :
    goal.returns-in_ok-extend_from_slice-in-Some-clause-added
returns-in_ok-extend_from_slice-in-Some-clause-added c =
    documents_more c.args.table.now
    (c.get_mut.follows.lender c.extend_from_slice.new.self) c.args.word c.in-Some.documents.now
    c.extend_from_slice.new.self c.args.numbers.now
    (search rules) ((c.get_mut.follows.holds c.extend_from_slice.new.self).3
    (search rules)) c.in_ok-extend_from_slice-in-Some.ensures.ok
