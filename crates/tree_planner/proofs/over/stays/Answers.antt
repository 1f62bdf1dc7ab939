use Rattle.std.proofs.Common.{inl, inr, subst, sym}
use Rattle.tree_flow.proofs.Moved.{same_or_not}
use Rattle.tree_flow.specs.declared.nodes.TreeNode.TheVariants.{Rack}
use Rattle.tree_planner.specs.Lows.{IsLow}
use Rattle.tree_planner.specs.Searching.{state_at, wave_of}
use Rattle.tree_planner.proofs.over.stays.Goals as goal

pub is_past_low-requires-clause-low : goal.is_past_low-requires-clause-low
is_past_low-requires-clause-low c =
    subst (λ low. IsLow (wave_of c.args.ground.now) (state_at c.args.ground.now) c.args.leaving.split low)
    (sym c.of-low.ensures) (c.requires.searching.low c.args.leaving.split)

pub returns-then-one : goal.returns-then-one
returns-then-one c = λ two x is.
    elim (same_or_not x.node (Rack c.of-low.result.spared.one)) [
      | inl e ↦ c.is_past_rack-one.ensures c.if-one.true x is e
      | inr not_one ↦ elim (same_or_not x.node (Rack c.of-low.result.spared.two)) [
        | inl e ↦ c.is_past_rack-two.ensures two x is e
        | inr not_two ↦ c.is_past_low.ensures c.if-not-is_past_low.false x is not_one not_two
      ]
    ]
