use Rattle.std.proofs.Common.{◌∙◌, ap, length, subst}
use Rattle.std.specs.List.Sorted.{IsPermutation}
use Rattle.std.proofs.lemmas.List.Kept.{IsStrictlySortedBy-dedup, Contains-dedup, Contains-from_dedup}
use Rattle.std.proofs.lemmas.List.Sorted.{Contains-permutation, IsPermutation-sym}
use Rattle.std.proofs.lemmas.Map.Views.{tells_apart}
use Rattle.word_map.proofs.SortedLemmas.{refill_same}
use Rattle.word_map.proofs.distinct.sort_distinct.Goals as goal

-- what `dedup` leaves of a sorted list rises
pub returns-clause-rising : goal.returns-clause-rising
returns-clause-rising g c =
    rw (
      c.dedup.ensures.items,
      refill_same c.args.items.now.items c.sort_unstable.new.self
          (c.sort_unstable.ensures.len ∙ ap length c.as_mut_slice.ensures.value),
    )
    (IsStrictlySortedBy-dedup g.met.T.Ord.total g.met.T.Ord.matches_eq _ c.sort_unstable.ensures.sorted)

-- a sort moves items, and `dedup` keeps one of those that are alike
pub returns-clause-same : goal.returns-clause-same
returns-clause-same g c x =
    let same = refill_same c.args.items.now.items c.sort_unstable.new.self
    (c.sort_unstable.ensures.len ∙ ap length c.as_mut_slice.ensures.value) in
    let moved = subst (λ xs. IsPermutation xs c.sort_unstable.new.self) c.as_mut_slice.ensures.value
    c.sort_unstable.ensures.permutation in (
      (λ h. Contains-permutation _ _ x (IsPermutation-sym _ _ moved)
          (Contains-from_dedup _ _ x (rw (c.dedup.ensures.items, same) at h))),
      (λ h. rw (c.dedup.ensures.items, same) (Contains-dedup g.met.T.Eq.laws
          (λ y z e. tells_apart c.requires y z (rw g.met.T.Ord.matches_eq at e)) _ x
          (Contains-permutation _ _ x moved h))),
    )
