use Rattle.std.proofs.Common.{◌∙◌, ◌<◌, ◌≤◌, ℕ, List, length, ap, arith, subst, sym}
use Rattle.std.specs.Prelude.{All}
use Rattle.rack_tree.specs.View as tree
use Rattle.wave_problem.specs.declared.TheConstants.{MAX_SPLITS}
use Rattle.wave_problem.specs.Wave.{IsWithinLimits, Wave}
use Rattle.wave_problem.proofs.Bound.{splits_known, workers_known}
use Rattle.tree_planner.specs.Starting.{AreBestStarts}
use Rattle.wave_planner.proofs.Costed.{pairs_few}
use Rattle.wave_planner.proofs.OverRacks.{starts_over_racks}
use Rattle.master_core.proofs.kept_plan.starts_of.Goals as goal

-- no more start than there are splits
few : (wave : Wave) (pairs : List (ℕ × ℕ)) → IsWithinLimits wave → AreBestStarts wave pairs →
    length pairs ≤ MAX_SPLITS
few wave pairs within starts =
    omega (arith, ap length starts.starts, pairs_few starts.plan, starts.sizes.starts, within.few_splits)

pub cost_of-cost-requires-clause-few : goal.cost_of-cost-requires-clause-few
cost_of-cost-requires-clause-few c =
    subst (λ (ps : List (ℕ × ℕ)). length ps ≤ MAX_SPLITS) (sym c.deref.ensures.value)
    (few c.args.engine.now.wave c.in_ok-pairs.pairs.items
    (subst IsWithinLimits (c.problem.ensures ∙ c.starts.ensures.wave) c.limits.ensures.problem)
    c.in_ok-pairs.ensures.best)

pub cost_of-cost-requires-clause-known : goal.cost_of-cost-requires-clause-known
cost_of-cost-requires-clause-known c =
    let wave = c.args.engine.now.wave in
    let pairs = c.in_ok-pairs.pairs.items in
    let assigned = c.in_ok-pairs.ensures.best.best.assignment in
    let known : All (λ pair. (pair.0 < length wave.splits) × (pair.1 < length wave.workers)) pairs = λ k d l. (
      splits_known wave pairs assigned k d l,
      workers_known wave pairs assigned k d l,
    ) in
    subst (λ (ps : List (ℕ × ℕ)). All (λ pair. (pair.0 < length c.problem-2.result.now.splits)
    × (pair.1 < length c.problem-2.result.now.workers)) ps)
    (sym c.deref.ensures.value)
    (subst (λ (w : Wave). All (λ pair. (pair.0 < length w.splits) × (pair.1 < length w.workers)) pairs)
    (sym (c.problem-2.ensures ∙ c.starts.ensures.wave)) known)

pub returns-clause-planned : goal.returns-clause-planned
returns-clause-planned c =
    let starts = c.in_ok-pairs.ensures.best in
    let same = c.problem.ensures ∙ c.starts.ensures.wave in
    record {
      plan = starts.plan;
      prices = starts.prices;
      starts = starts.starts;
      over = starts_over_racks c.args.engine.now.wave c.in_ok-pairs.pairs.items
          (subst IsWithinLimits same c.limits.ensures.problem)
          (subst (λ (w : Wave). tree.IsWithinLimits w.tree) same c.limits.ensures.tree) starts;
      certifies = starts.certifies;
      best = starts.best;
    }

pub returns-clause-few : goal.returns-clause-few
returns-clause-few c =
    few c.args.engine.now.wave c.in_ok-pairs.pairs.items
    (subst IsWithinLimits (c.problem.ensures ∙ c.starts.ensures.wave) c.limits.ensures.problem)
    c.in_ok-pairs.ensures.best
