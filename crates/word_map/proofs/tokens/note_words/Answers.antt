use Rattle.word_map.proofs.RunLemmas.{run_from_span, begins_after, adds_one_more, adds_all}
use Rattle.word_map.proofs.RunLemmas.{boundary_after_run}
use Rattle.word_map.proofs.tokens.note_words.Goals as goal

pub range-requires-clause-end_boundary : goal.range-requires-clause-end_boundary
range-requires-clause-end_boundary g c =
    let inside = rw c.as_bytes-bytes.ensures.value at c.loop-start-test.true in
    let span = rw c.as_bytes-bytes.ensures.value at c.span_end-stop.ensures in
    boundary_after_run c.utf8.text (run_from_span c.loop-start.invariant.begins inside span)

-- the run is pushed, and the next one is sought behind it
pub loop-start-preserved : goal.loop-start-preserved
loop-start-preserved g c =
    let before = c.loop-start.invariant in
    let inside = rw c.as_bytes-bytes.ensures.value at c.loop-start-test.true in
    let span = rw c.as_bytes-bytes.ensures.value at c.span_end-stop.ensures in
    let gap = rw c.as_bytes-bytes.ensures.value at c.span_end-start-in-loop-start.ensures in
    let noted = rw (c.new.ensures, c.range.ensures.value) at c.in_ok-note.ensures in
    record {
      begins = begins_after (run_from_span before.begins inside span) gap;
      adds = adds_one_more before.begins inside span gap before.adds noted.exact;
    }

-- the end is reached, so all runs are there
pub returns : goal.returns
returns g c = adds_all (rw c.as_bytes-bytes.ensures.value at c.loop-start-test.false)
    c.loop-start.invariant.adds
