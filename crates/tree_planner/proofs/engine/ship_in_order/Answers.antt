use Rattle.std.proofs.Common.{◌∙◌, refl, rules}
use Rattle.tree_planner.proofs.Lowered.{none_low}
use Rattle.tree_planner.proofs.engine.ship_in_order.Goals as goal

pub loop-split-init : goal.loop-split-init
loop-split-init c = record {
  held = c.requires.held;
  terms = refl;
  blank = search rules;
  low = none_low _ _ c.in_ok-search.search.lows c.in_ok-search.ensures.lows;
}

pub loop-split-preserved : goal.loop-split-preserved
loop-split-preserved c = record {
  held = c.ship_if_known.ensures.held;
  terms = c.ship_if_known.ensures.terms ∙ c.loop-split.invariant.terms;
  blank = c.ship_if_known.ensures.blank;
  low = c.ship_if_known.ensures.low;
}
