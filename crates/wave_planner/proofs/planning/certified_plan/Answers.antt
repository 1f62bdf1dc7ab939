use Rattle.std.proofs.Common.{[], sym, ◌∙◌}
use Rattle.wave_problem.specs.Assignment.{pairs_of}
use Rattle.price_certificate.proofs.Covered.{charge-plain}
use Rattle.wave_planner.proofs.planning.certified_plan.Goals as goal

pub invariant_of-result : goal.invariant_of-result
invariant_of-result c = (
  record {
    wave = c.args.problem.now;
    places = [];
    plan_for = record {
      one_size = c.requires.sizes;
      certified = record {
        certifies = c.requires.certifies;
        count = c.count_and_cost-certified.ensures.count;
        cost = c.count_and_cost-certified.ensures.cost;
        places = c.count_and_cost-certified.ensures.places ∙
            sym (charge-plain c.args.problem.now (pairs_of c.args.plan.starts));
      };
    };
  },
  c.requires.pairs,
)
