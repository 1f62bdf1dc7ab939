use Rattle.std.proofs.Common.{◌+◌, ◌*◌, ◌≤◌, length, ap, ◌∙◌, arith}
use Rattle.hand_ledger.specs.Settling.{LogValue, AgreesAt}
use Rattle.hand_ledger.specs.declared.marks.TheConstants.{PLACES}
use Rattle.hand_ledger.proofs.Marking.{all_agree, up_to}
use Rattle.hand_ledger.proofs.settling.torn_place.Goals as goal

pub returns-in-Some : goal.returns-in-Some
returns-in-Some g c =
    let is = c.in-Some.ensures in (
      is.1,
      up_to (AgreesAt c.args.log.now c.args.is_short c.args.hands.now)
          (c.loop-piece.piece * PLACES) c.in-Some.n c.loop-piece.invariant is.2,
    )

pub loop-piece-preserved : goal.loop-piece-preserved
loop-piece-preserved g c place lt =
    up_to (AgreesAt c.args.log.now c.args.is_short c.args.hands.now) (c.loop-piece.piece * PLACES) PLACES
    c.loop-piece.invariant c.in_default.ensures place (omega (arith, lt))

pub returns : goal.returns
returns g c =
    let log = c.args.log.now in
    let last = c.last_place-last.result in
    let count = c.len.ensures.count ∙ ap (λ (l : LogValue). length l.history) c.log.view_is in
    let events : length log.history + 1 ≤ last = omega (arith, c.last_place-last.ensures.events, count) in
    all_agree log c.args.is_short c.args.hands.now last events c.last_place-last.ensures.calls
    (λ place within. c.loop-piece.invariant place (omega (arith, within, c.loop-piece-test.false)))
