use Rattle.std.proofs.lemmas.List.Sorted.{answers_always, IsNonDecreasingBy-from_sort}
use Rattle.std.proofs.Common.{rules}
use Rattle.certificate_checker.specs.declared.slots.Slot.{Slot}
use Rattle.certificate_checker.proofs.slots.sort_by_price.Goals as goal

pub returns-clause-rising : goal.returns-clause-rising
returns-clause-rising c =
    IsNonDecreasingBy-from_sort (λ (slot : Slot). slot.price) _
    (c.sort_unstable_by_key.ensures.sorted (λ (slot : Slot). slot.price)
    (answers_always _ _ _ (λ f a r g h. search rules)))
