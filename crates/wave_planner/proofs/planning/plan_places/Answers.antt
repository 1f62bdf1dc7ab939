use Rattle.wave_planner.proofs.planning.plan_places.Goals as goal

pub invariant_of-result : goal.invariant_of-result
invariant_of-result c = (
  record {
    wave = c.args.problem.now;
    places = c.args.places.now;
    plan_for = record { one_size = c.in_ok-plan.ensures.sizes; certified = c.figures_of-certified.ensures };
  },
  c.in_ok-pairs.ensures,
)
