use Rattle.std.proofs.Common.{◌∙◌}
use Rattle.plan_text.proofs.Parts.{all_within}
use Rattle.plan_text.proofs.built.build_problem.Goals as goal

pub within_limits-requires : goal.within_limits-requires
within_limits-requires c =
    all_within c.args.rows.now c.are_tidy.ensures _ _ _ _ c.limits.ensures c.in_ok-tree.ensures
    c.in_ok-workers.ensures (c.deref-2.ensures.value ∙ c.in_ok-splits.ensures)
