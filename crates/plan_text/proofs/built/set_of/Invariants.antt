use Rattle.std.proofs.Common.{ℕ, ◌≡◌, length, take}
use Rattle.std.specs.Prelude.{◌↔◌}
use Rattle.std.specs.List.{Contains}
use Rattle.node_ids.specs.Sets.{HasPair}
use Rattle.plan_text.proofs.built.set_of.Given as goal

abbrev pub invariant-loop-pair : goal.invariant-loop-pair
invariant-loop-pair l = record {
  room : length l.set ≡ l.splits;
  members : (s w : ℕ) → HasPair l.set s w ↔ Contains (take l.pair-index l.pairs) (s, w);
}
