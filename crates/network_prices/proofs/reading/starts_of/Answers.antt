use Rattle.std.proofs.Common.{◌≡◌, ◌+◌, ◌<◌, ℕ, List, Option, length, get_or, set, subst, sym, ap, arith, ◌∙◌}
use Rattle.std.proofs.Common.{length-set}
use Rattle.wave_problem.specs.Assignment.{start_of}
use Rattle.network_prices.specs.Layers.{IsStart}
use Rattle.network_prices.proofs.Handed.{starts_more}
use Rattle.network_prices.proofs.reading.starts_of.Goals as goal

pub loop-i-preserved : goal.loop-i-preserved
loop-i-preserved c =
    let old = c.loop-i.invariant in
    let inside : c.loop-i.i < length c.loop-i.plan.starts = (let size = old.size in omega arith) in
    let new : c.set.new.self.starts ≡ set c.loop-i.plan.starts c.loop-i.i c.start_at.result =
    c.set.ensures.starts ∙ ap (λ (z : ℕ). set c.loop-i.plan.starts z c.start_at.result)
    c.new-in-loop-i.ensures in
    let each = starts_more c.args.problem.now c.args.first c.args.places.now c.loop-i.plan.starts c.loop-i.i
    c.start_at.result inside c.start_at.ensures.start old.each in
    record {
      size = ap (λ (xs : List (Option ℕ)). length xs) new
          ∙ length-set c.loop-i.plan.starts c.loop-i.i c.start_at.result ∙ old.size;
      workers = c.set.ensures.workers ∙ old.workers;
      each = subst (λ (xs : List (Option ℕ)). (k : ℕ) → k < c.loop-i.i + 1 →
          IsStart c.args.problem.now c.args.first (get_or c.args.places.now k 0) (start_of xs k))
          (sym new) each;
    }
