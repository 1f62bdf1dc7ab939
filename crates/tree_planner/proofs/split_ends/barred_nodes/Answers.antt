use Rattle.std.proofs.Common.{arith, length, sym, subst, ◌∙◌}
use Rattle.std.proofs.lemmas.Bool.{eqb-true, false≢true}
use Rattle.tree_planner.specs.Ends.{IsIn}
use Rattle.tree_planner.proofs.Barred.{at_in_row}
use Rattle.tree_planner.proofs.split_ends.barred_nodes.Goals as goal

pub returns-then-is_empty : goal.returns-then-is_empty
returns-then-is_empty c = record {
  over = tt;
  each = λ v known. (
    λ is. absurd (false≢true is),
    λ b.
        (let row = c.bars.result.now in
        let there = at_in_row row b.0 (subst (λ row. IsIn row b.0) (sym c.bars.ensures.row) b.3) in
        let few = there.1 in
        let none = eqb-true (length row) 0 (sym c.is_empty.ensures ∙ c.if-is_empty.true) in
        absurd (omega arith)),
  );
}

pub returns : goal.returns
returns c = record {
  over = c.in_ok-bars.ensures.over;
  each = λ v known. c.in_ok-bars.ensures.bars v;
}
