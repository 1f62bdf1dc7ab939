use Rattle.std.proofs.Common.{◌∙◌, ◌≡◌, sym, refl, ap, subst, List, ℕ, [], arith}
use Rattle.std.proofs.lemmas.Grind.{common_steps}
use Rattle.std.specs.Prelude.{drop}
use Rattle.std.specs.List.{fold}
use Rattle.std.specs.List.Sorted.{IsPermutation}
use Rattle.node_ids.specs.Sets.{row_of_all, row_with}
use Rattle.node_ids.proofs.Rising.{row-permutation}
use Rattle.node_ids.proofs.sets.SplitSet.of.Goals as goal

pub returns : goal.returns
returns c =
    let sorted = c.deref-split-items.result.now in
    let none : drop c.loop-split.split-index sorted ≡ [] =
    grind (arith, common_steps, c.loop-split-test.false) in
    let made : c.loop-split.set ≡ row_of_all sorted =
    subst (λ (left : List ℕ). fold (λ row n. row_with n row) c.loop-split.set left ≡ row_of_all sorted) none
    c.loop-split.invariant in
    let same : IsPermutation c.args.splits.now sorted =
    grind (
      arith,
      common_steps,
      c.sort_unstable.ensures.permutation,
      c.in_ok-extend_from_slice.ensures.items,
      c.in_ok-sorted.ensures.items,
      c.deref-split-items.ensures.value,
    ) in
    made ∙ row-permutation c.args.splits.now sorted same
