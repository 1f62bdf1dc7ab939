use Rattle.std.proofs.Common.{[], ℕ, ◌<◌, List, length, get_or, arith, refl, sym, ap, ◌∙◌, subst}
use Rattle.wave_problem.specs.Assignment.{pairs_of, total}
use Rattle.wave_problem.proofs.Bound.{live_known, pending_known}
use Rattle.wave_problem.proofs.Pairs.{pairs_started}
use Rattle.price_certificate.specs.declared.Condition.TheVariants.{Allowed, Open}
use Rattle.price_certificate.proofs.Covered.{charge-plain}
use Rattle.rack_network.proofs.Exists.{certified_is_over_racks}
use Rattle.wave_planner.proofs.Costed.{pairs_few}
use Rattle.wave_planner.proofs.OverRacks.{is_tree}
use Rattle.wave_planner.proofs.planning.Planned.known.Goals as goal

pub cost_of-requires-clause-few : goal.cost_of-requires-clause-few
cost_of-requires-clause-few c =
    let few = pairs_few c.args.plan.starts in
    let is = ap length (c.deref.ensures.value ∙ c.requires.pairs) in
    let size = c.requires.sizes.starts in
    let most = c.limits.ensures.problem.few_splits in
    omega arith

pub cost_of-requires-clause-known : goal.cost_of-requires-clause-known
cost_of-requires-clause-known c = λ k d l.
    (let is = c.deref.ensures.value ∙ c.requires.pairs in
    subst (λ (xs : List (ℕ × ℕ)). ((get_or xs k d).0 < length c.args.problem.now.splits)
    × ((get_or xs k d).1 < length c.args.problem.now.workers)) (sym is)
    (let x = get_or (pairs_of c.args.plan.starts) k d in
    let start = pairs_started c.args.plan.starts k d (let same = ap length is in omega arith) in (
      pending_known c.args.problem.now x.0 (c.requires.certifies (Open x.0) (rw start refl)).0,
      live_known c.args.problem.now x.1 (c.requires.certifies (Allowed x.0 x.1) start).0,
    )))

pub returns-clause-over : goal.returns-clause-over
returns-clause-over c =
    let wave = c.args.problem.now in
    certified_is_over_racks wave c.args.plan.starts c.args.plan.workers c.args.prices
    (is_tree wave c.limits.ensures.problem c.limits.ensures.tree) c.requires.sizes c.requires.certifies c.requires.idle

pub invariant_of-result : goal.invariant_of-result
invariant_of-result c = (
  record {
    wave = c.args.problem.now;
    places = [];
    plan_for = record {
      one_size = c.requires.sizes;
      certified = record {
        certifies = c.requires.certifies;
        count = omega (arith, c.len.ensures, ap length c.requires.pairs);
        cost = c.cost_of.ensures ∙ ap (total c.args.problem.now) (c.deref.ensures.value ∙ c.requires.pairs);
        places = sym (charge-plain c.args.problem.now (pairs_of c.args.plan.starts));
      };
    };
  },
  c.requires.pairs,
)
