use Rattle.std.proofs.Common.{ℕ, ◌∙◌, arith, inl, inr, refl, rules, subst, sym}
use Rattle.std.specs.Prelude.{◌≢◌}
use Rattle.std.proofs.lemmas.Bool.{cases_eq}
use Rattle.tree_flow.specs.declared.nodes.Place.TheVariants.{Unshipped}
use Rattle.tree_flow.specs.State.{place_of}
use Rattle.tree_planner.specs.View.{state_of}
use Rattle.tree_planner.proofs.Lowered.{none_low}
use Rattle.tree_planner.proofs.engine.ship_each.Goals as goal

pub loop-s-init : goal.loop-s-init
loop-s-init c = record {
  held = c.requires.held;
  terms = refl;
  blank = search rules;
  low = none_low _ _ c.in_ok-search.search.lows c.in_ok-search.ensures.lows;
  shipped = λ k l. absurd (omega arith);
}

pub loop-s-preserved : goal.loop-s-preserved
loop-s-preserved c = record {
  held = c.ship_once.ensures.held;
  terms = c.ship_once.ensures.terms ∙ c.loop-s.invariant.terms;
  blank = c.ship_once.ensures.blank;
  low = c.ship_once.ensures.low;
  shipped = λ k l. elim (cases_eq k c.loop-s.s) [
    | inl e ↦ subst (λ (k : ℕ). place_of (state_of c.ship_once.new.tables) k ≢ Unshipped) (sym e)
        c.ship_once.ensures.shipped
    | inr n ↦ (λ un. c.loop-s.invariant.shipped k (omega arith) ((c.ship_once.ensures.others k n).0 un))
  ];
}
