use Rattle.std.proofs.Common.{subst}
use Rattle.std.specs.Io.BufRead.{FillKeeps}
use Rattle.std.proofs.BufReadLemmas.{Consumes_shown}
use Rattle.line_talk.proofs.Lines.{took}
use Rattle.line_talk.proofs.take_piece.Goals as goal

pub returns : goal.returns
returns g c =
    let rested = c.fill_buf.follows.lender-at-none in
    let filled =
    subst (FillKeeps _ (g.R.Read.remaining rested) (g.R.BufRead.consumable_len rested)) c.in-Ok.is
    c.fill_buf.follows.holds-at-none in
    took _ _ _ c.in-Ok.shown.now c.in_ok-count.count _ _ c.in_ok-count.piece c.in_ok-count.ensures c.in-Ok.ensures.end
    (λ within. (Consumes_shown _ _ _ _ c.in-Ok.shown.now c.in_ok-count.count within c.in-Ok.ensures.front
    c.in-Ok.ensures.end filled.0 filled.1 c.consume.ensures.bytes).0)
