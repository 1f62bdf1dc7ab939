use Rattle.std.proofs.Common.{◌≡◌, List, length, ap, sym, subst, arith}
use Rattle.std.specs.List.Sorted.{IsPermutation}
use Rattle.std.proofs.lemmas.List.Sorted.{length_permutation}
use Rattle.certificate_checker.specs.Slots.{AreSlots}
use Rattle.certificate_checker.specs.declared.slots.Slot.{Slot}
use Rattle.certificate_checker.proofs.Linked.{sorted_slots, written_back}
use Rattle.certificate_checker.proofs.checker.Checker.sorted_slots.Goals as goal

pub returns : goal.returns
returns c =
    let claim = c.args.self.now in
    let xs = c.loop-i.slots.items in
    let ys = c.sort_by_price.new.slots in
    let moved : IsPermutation xs ys =
    subst (λ (zs : List Slot). IsPermutation zs ys) c.deref_mut.ensures.value c.sort_by_price.ensures.same in
    let size : length xs ≡ c.loop-i.slots.len = omega (
      arith,
      c.deref_mut.ensures.len,
      ap (λ (zs : List Slot). length zs) c.deref_mut.ensures.value,
    ) in
    let count = c.workers-i-end.ensures in
    let long : length xs ≡ length claim.wave.workers = omega (
      arith,
      c.loop-i.invariant.long,
      c.loop-i-test.false,
      c.loop-i.auto.i-end,
      count.count,
    ) in
    subst (AreSlots claim) (sym (written_back xs ys c.loop-i.slots.len size (length_permutation xs ys moved)))
    (sorted_slots claim xs ys long (omega (arith, long, count.count, count.most))
    (λ k within. c.loop-i.invariant.each k (omega (arith, c.loop-i.invariant.long))) moved
    c.sort_by_price.ensures.rising)
