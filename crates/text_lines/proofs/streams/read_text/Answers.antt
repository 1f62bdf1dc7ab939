use Rattle.std.proofs.Common.{◌∙◌, arith, ap, Ok}
use Rattle.text_lines.specs.Streams.{longest}
use Rattle.text_lines.proofs.Lengths.{ended_text, full_text, longest-grows, within_text}
use Rattle.text_lines.proofs.Pieces.{more}
use Rattle.text_lines.proofs.streams.read_text.Goals as goal

pub returns-then-len-most-clause-read : goal.returns-then-len-most-clause-read
returns-then-len-most-clause-read g c =
    let most = c.longest-most.ensures ∙ ap longest c.deref.ensures.value in
    full_text _ (g.R.Read.remaining c.loop.reader) c.loop.text.items c.loop.invariant.lost
    (omega (arith, most)) (omega (arith, c.loop.invariant.few))

pub returns-then-len-most-clause-unread : goal.returns-then-len-most-clause-unread
returns-then-len-most-clause-unread g c = record {
  bytes = c.loop.text.items;
  few = omega (arith, c.loop.invariant.few);
  consumed = c.loop.invariant.lost;
}

pub returns-in_err-read_piece-clause-unread : goal.returns-in_err-read_piece-clause-unread
returns-in_err-read_piece-clause-unread g c =
    let most = c.longest-most.ensures ∙ ap longest c.deref.ensures.value in
    within_text _ _ _ c.loop.text.items _ c.loop.invariant.lost c.in_err-read_piece.ensures.err
    (omega (arith, most))

pub returns-in-End-clause-read : goal.returns-in-End-clause-read
returns-in-End-clause-read g c =
    let most = c.longest-most.ensures ∙ ap longest c.deref.ensures.value in
    let read = c.in_ok-read_piece.ensures.ok in
    let grows = longest-grows c.loop.text.items read.bytes in
    let all = ap longest read.grown in
    ended_text _ (g.R.Read.remaining c.read_piece.new.reader) c.read_piece.new.text.items
    (more _ _ _ _ _ c.loop.invariant.lost read) (c.in_ok-read_piece.ensures.end (ap Ok c.in-End.is))
    (omega (arith, most, grows, all, c.read_piece.ensures.bound))

pub returns-in-End-clause-unread : goal.returns-in-End-clause-unread
returns-in-End-clause-unread g c =
    let most = c.longest-most.ensures ∙ ap longest c.deref.ensures.value in
    let read = c.in_ok-read_piece.ensures.ok in
    let grows = longest-grows c.loop.text.items read.bytes in
    let all = ap longest read.grown in
    record {
      bytes = c.read_piece.new.text.items;
      few = omega (arith, most, grows, all, c.read_piece.ensures.bound);
      consumed = more _ _ _ _ _ c.loop.invariant.lost read;
    }

pub returns-in-End-clause-bound : goal.returns-in-End-clause-bound
returns-in-End-clause-bound g c =
    let most = c.longest-most.ensures ∙ ap longest c.deref.ensures.value in
    let read = c.in_ok-read_piece.ensures.ok in
    let grows = longest-grows c.loop.text.items read.bytes in
    let all = ap longest read.grown in
    omega (arith, most, grows, all, c.read_piece.ensures.bound)

pub loop-preserved : goal.loop-preserved
loop-preserved g c =
    let most = c.longest-most.ensures ∙ ap longest c.deref.ensures.value in
    let read = c.in_ok-read_piece.ensures.ok in
    let grows = longest-grows c.loop.text.items read.bytes in
    let all = ap longest read.grown in
    record {
      lost = more _ _ _ _ _ c.loop.invariant.lost read;
      few = omega (arith, most, grows, all, c.read_piece.ensures.bound);
    }
