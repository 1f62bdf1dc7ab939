use Rattle.std.proofs.Common.{subst, sym}
use Rattle.std.proofs.lemmas.List.Filters.{All-dedup, dedup_is}
use Rattle.std.proofs.lemmas.List.Kept.{AllPairs-from_increasing, Contains-dedup_nat}
use Rattle.std.proofs.lemmas.List.Sorted.{All-permutation, Contains-permutation}
use Rattle.std.proofs.lemmas.Map.Keys.{IsStrictlyIncreasing-dedup}
use Rattle.tree_planner.specs.Handing.{AreStanding, HasStand}
use Rattle.tree_planner.specs.View.{state_of}
use Rattle.tree_planner.proofs.hand_down.standing_splits.Goals as goal

pub returns : goal.returns
returns c =
    let state = state_of c.args.tables.now in
    let found = c.in_ok-splits.splits.items in
    let sorted = c.sort_unstable.new.self.items in
    subst (AreStanding state) (sym (dedup_is _ sorted c.dedup.new.self.items c.dedup.ensures.filtered)) (record {
      rise = AllPairs-from_increasing _ (IsStrictlyIncreasing-dedup sorted c.sort_unstable.ensures.sorted);
      each = All-dedup _ (HasStand state) sorted
          (All-permutation (HasStand state) found sorted c.sort_unstable.ensures.permutation c.in_ok-splits.ensures.each);
      all = λ s there. Contains-dedup_nat sorted s
          (Contains-permutation found sorted s c.sort_unstable.ensures.permutation (c.in_ok-splits.ensures.all s there));
    })
