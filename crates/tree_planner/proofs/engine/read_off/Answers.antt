use Rattle.std.proofs.Common.{◌∙◌, List, Option, ℕ, ap, length, subst, sym}
use Rattle.wave_problem.specs.Assignment.{pairs_of}
use Rattle.tree_flow.specs.Settled.{IsHandedDown}
use Rattle.tree_planner.specs.View.{state_of}
use Rattle.tree_flow.proofs.Certified.{engine_certifies, engine_is_best}
use Rattle.tree_planner.proofs.engine.read_off.Goals as goal

pub returns : goal.returns
returns c =
    let wave = c.args.problem.now in
    let state = state_of c.args.tables.now in
    let starts = c.in_ok-plan.plan.starts in
    let prices = c.in_ok-prices.prices in
    let near = c.limits.ensures.problem.near in
    let p = c.in_ok-pairs.ensures.planned in
    let made = c.in_ok-plan.ensures.starts p.starts p.size (p.made ∙ sym c.deref.ensures.value) in
    let down = subst (λ (xs : List (Option ℕ)). IsHandedDown wave state xs) (sym made) c.in_ok-pairs.ensures.down in
    let are = c.in_ok-prices.ensures.prices starts (ap pairs_of made ∙ p.made ∙ sym c.deref-2.ensures.value) in
    record {
      sizes = record {
        starts = ap length made ∙ p.size;
        workers = c.in_ok-plan.ensures.workers;
        split_prices = c.in_ok-prices.ensures.splits;
        worker_prices = c.in_ok-prices.ensures.workers;
      };
      certifies = λ places terms. engine_certifies wave places state starts prices terms near c.requires.fixed.known
          c.requires.held.kept down are;
      idle = are.unusable;
      best = λ places fit terms. engine_is_best wave places state starts prices fit terms near c.requires.fixed.known
          c.requires.held.kept down are;
      pairs = sym (ap pairs_of made ∙ p.made);
    }
