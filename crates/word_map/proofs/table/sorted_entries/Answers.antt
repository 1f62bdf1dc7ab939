use Rattle.word_map.proofs.SortedLemmas.{made_none, made_more, made_all, pairs_of_made}
use Rattle.word_map.proofs.table.sorted_entries.Goals as goal

pub loop-word-init : goal.loop-word-init
loop-word-init g c = rw (c.into_iter-word-iterator.ensures.into_iter_gives.0, c.in_ok-entries.ensures.items)
    (made_none c.args.table c.requires.table)

-- one more entry
pub loop-word-preserved : goal.loop-word-preserved
loop-word-preserved g c =
    let first = c.in-Some.ensures.steps in
    rw c.in_ok-push.ensures.items
    (made_more c.args.table.entries c.next.new.self c.loop-word.entries.items c.in-Some.word
    c.in-Some.documents c.in_ok-make_entry.field-0 (rw first at c.loop-word.invariant)
    c.in_ok-make_entry.ensures.word c.in_ok-make_entry.ensures.rise c.in_ok-make_entry.ensures.same)

-- none is left
pub returns-clause-entries : goal.returns-clause-entries
returns-clause-entries g c =
    made_all c.args.table.entries c.loop-word.entries.items c.requires.sorted c.requires.table.unique
    (rw c.in-None.ensures.steps.0 at c.loop-word.invariant)

pub returns-clause-same : goal.returns-clause-same
returns-clause-same g c = pairs_of_made c.args.table.entries c.loop-word.entries.items
    (rw c.in-None.ensures.steps.0 at c.loop-word.invariant)
