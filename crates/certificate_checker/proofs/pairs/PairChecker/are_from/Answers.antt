use Rattle.std.proofs.Common.{ap, subst, arith}
use Rattle.std.proofs.lemmas.List.{get_or_read}
use Rattle.price_certificate.specs.Certificate.{Claim}
use Rattle.certificate_checker.specs.declared.slots.Slot.{Slot}
use Rattle.certificate_checker.specs.Slots.{AreSlots}
use Rattle.certificate_checker.proofs.Linked.{walked}
use Rattle.certificate_checker.proofs.pairs.PairChecker.are_from.Goals as goal

pub returns-then-slot-least : goal.returns-then-slot-least
returns-then-slot-least c = λ _.
    let slots = c.self.inside.slots.all.items in
    let none : Slot = record { worker = 0; price = 0 } in
    let are = subst (λ (z : Claim). AreSlots z slots) c.self.view_is c.self.invariant.slots in
    let read = get_or_read slots c.slots.place c.index-slot.result.now
    (omega (arith, c.slots-test.true, c.len.ensures)) c.index-slot.ensures none in
    let price = ap (λ (slot : Slot). slot.price) read in
    walked c.args.self.now c.args.split c.args.level c.args.node c.args.least c.slots.place slots are
    c.slots.invariant.passed
    (λ k from within. omega (arith, price, c.if-slot-least.true, are.rising c.slots.place k none from within))

pub returns : goal.returns
returns c = λ _.
    let slots = c.self.inside.slots.all.items in
    let are = subst (λ (z : Claim). AreSlots z slots) c.self.view_is c.self.invariant.slots in
    walked c.args.self.now c.args.split c.args.level c.args.node c.args.least c.slots.place slots are
    c.slots.invariant.passed (λ k from within. absurd (omega (arith, c.slots-test.false)))
