use Rattle.std.proofs.Common.{ap, arith}
use Rattle.hand_ledger.proofs.Calls.{length-all_calls}
use Rattle.hand_ledger.proofs.making.+audit_beside.Goals as goal

pub returns-clause-bound : goal.returns-clause-bound
returns-clause-bound g t c =
    let kept = c.hand.inside in
    let all = length-all_calls kept.entries.items kept.counts.items kept.starts.items
    c.in-Some.ensures.cases.0 (ap (λ h. h.calls) c.hand.view_is) in
    omega (arith, all, c.len-kept.ensures, c.give.ensures.amount_given, c.audit_beside.ensures.bound)

pub returns-clause-whole : goal.returns-clause-whole
returns-clause-whole g t c whole =
    let kept = c.hand.inside in
    let all = length-all_calls kept.entries.items kept.counts.items kept.starts.items
    c.in-Some.ensures.cases.0 (ap (λ h. h.calls) c.hand.view_is) in
    let beside = c.audit_beside.ensures.whole
    (omega (arith, whole, c.in-Some.ensures.cases.1, c.give.ensures.parts_given)) in
    omega (arith, all, c.len-kept.ensures, c.give.ensures.amount_given, beside)
