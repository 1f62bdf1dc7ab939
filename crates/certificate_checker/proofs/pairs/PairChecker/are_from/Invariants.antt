use Rattle.std.proofs.Common.{◌≡◌, ℕ, ◌<◌, ◌-◌, length}
use Rattle.node_ids.specs.Sets.{HasPair}
use Rattle.certificate_checker.specs.Slots.{node_at, slot_at}
use Rattle.certificate_checker.proofs.pairs.PairChecker.are_from.Given as goal

-- the slots before the place that are under the node are of workers from which the split is barred
abbrev pub invariant-slots : goal.invariant-slots
invariant-slots l = record {
  under : l.place < length l.slots.items
      → node_at l.self.wave.tree l.fn.level (slot_at l.slots.items l.place).worker ≡ l.fn.node;
  passed : (k : ℕ) → k < l.place
      → node_at l.self.wave.tree l.fn.level (slot_at l.slots.items k).worker ≡ l.fn.node
      → HasPair l.self.wave.barred l.fn.split (slot_at l.slots.items k).worker;
}

abbrev pub decreases-slots : goal.decreases-slots
decreases-slots l = length l.slots.items - l.place
