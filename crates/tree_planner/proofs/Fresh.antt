-- Tables of a state in which nothing is shipped.
use Rattle.std.proofs.Common.{◌≡◌, ℕ, length, ap, cond}
use Rattle.std.proofs.Common.{List, All, inl, inr, slice_index_or}
use Rattle.std.proofs.lemmas.Bool.{cases_lt}
use Rattle.std.proofs.lemmas.List.{get_or_past}
use Rattle.tree_flow.specs.declared.nodes.End.{End}
use Rattle.tree_flow.specs.declared.nodes.Place.{Place}
use Rattle.tree_flow.specs.declared.nodes.Place.TheVariants.{Stands, Waits, Unshipped}
use Rattle.tree_flow.specs.declared.nodes.TreeNode.{TreeNode}
use Rattle.tree_flow.specs.declared.nodes.TreeNode.TheVariants.{Worker}
use Rattle.tree_flow.specs.Nodes.{is_under}
use Rattle.tree_flow.specs.State.{sum_under}
use Rattle.wave_problem.specs.Wave.{Wave}
use Rattle.wave_problem.proofs.Grouping.{sum_below-same}

-- a sum of the same numbers
pub same_sum : (wave : Wave) (v : TreeNode) (f g : ℕ → ℕ) → ((w : ℕ) → f w ≡ g w) → sum_under wave v f ≡ sum_under wave v g
same_sum wave v f g same = sum_below-same (length wave.workers) _ _
    (λ w l. ap (λ (n : ℕ). cond (is_under wave.tree (Worker w) v) n 0) (same w))

-- where no split is shipped, none stands
pub none_stands : (places : List Place) → All (λ place. place ≡ Unshipped) places → (s : ℕ) (e : End)
    → slice_index_or places s Waits ≡ Stands e → ⊥
none_stands places all s e stands = elim (cases_lt s (length places)) [
  | inl l ↦ (let is = all s Waits l in cc)
  | inr past ↦ (let waits = get_or_past places s Waits past in cc)
]
