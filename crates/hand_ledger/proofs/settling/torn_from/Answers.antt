use Rattle.std.proofs.Common.{ℕ, List, length, ap, ◌∙◌, subst, arith}
use Rattle.std.proofs.lemmas.Grind.{common_steps}
use Rattle.std.proofs.lemmas.List.{take_all}
use Rattle.hand_ledger.specs.Hands.{HandValue}
use Rattle.hand_ledger.specs.Marks.{Marks, IsFirstWrong}
use Rattle.hand_ledger.specs.Settling.{LogValue, all_calls}
use Rattle.hand_ledger.proofs.Marking.{lowest_from}
use Rattle.hand_ledger.proofs.settling.torn_from.Goals as goal

pub returns : goal.returns
returns g c =
    let found = c.loop-hand.found in
    let log = c.args.log.now in
    let hands = c.args.hands.now in
    lowest_from log c.args.is_short c.are_true.result hands found c.args.first
    (subst (λ (l : List HandValue). Marks log c.args.first (all_calls l) found)
    (take_all c.loop-hand.hand-index hands c.loop-hand-test.false) c.loop-hand.invariant.1)
    c.are_true.ensures c.first_wrong.result
    (subst (λ (n : ℕ). IsFirstWrong n c.are_true.result c.args.first found c.first_wrong.result)
    (c.len-events.ensures.count ∙ ap (λ (l : LogValue). length l.history) c.log.view_is) c.first_wrong.ensures)

pub loop-hand-preserved : goal.loop-hand-preserved
loop-hand-preserved g c = grind (arith, common_steps)
