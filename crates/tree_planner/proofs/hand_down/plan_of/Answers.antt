use Rattle.std.proofs.Common.{ℕ, ◌+◌, ◌∙◌, List, None, Option, Some, ap, drop, length, replicate}
use Rattle.std.proofs.Common.{sym, arith}
use Rattle.std.specs.Prelude.{slice_set}
use Rattle.std.proofs.lemmas.List.{at_drop_all, drop_more, length-replicate, length-set}
use Rattle.tree_planner.proofs.Paired.{filled, filled_of, pairs_known}
use Rattle.tree_planner.proofs.hand_down.plan_of.Goals as goal

pub set-requires : goal.set-requires
set-requires c =
    let wave = c.args.problem.now in
    let pairs = c.args.pairs.now in
    let known = pairs_known wave pairs c.requires c.loop-pair.pair-index c.pair-item.result c.loop-pair-test.true in
    let s = ap (λ (x : ℕ × ℕ). x.0) c.pair-item.is in
    let w = ap (λ (x : ℕ × ℕ). x.1) c.pair-item.is in
    let one = known.0 in
    let two = known.1 in
    record {
      split = omega (arith, s, one, c.loop-pair.invariant.size);
      worker = omega (arith, w, two, c.loop-pair.invariant.workers);
    }

pub loop-pair-init : goal.loop-pair-init
loop-pair-init c =
    let starts = c.in_ok-plan.ensures.starts ∙ ap (λ (n : ℕ). replicate {A = Option ℕ} n None) c.splits.ensures.count in
    record {
      filled = ap (λ (xs : List (Option ℕ)). filled xs c.args.pairs.now) starts;
      size = ap length starts ∙ length-replicate (length c.args.problem.now.splits) None;
      workers = c.in_ok-plan.ensures.workers ∙ c.workers.ensures.count;
    }

pub loop-pair-preserved : goal.loop-pair-preserved
loop-pair-preserved c =
    let pairs = c.args.pairs.now in
    let k = c.loop-pair.pair-index in
    let pair = c.pair-item.result in
    let old = c.loop-pair.plan.starts in
    let i = c.loop-pair.invariant in
    let starts = c.set.ensures.starts in
    record {
      filled = ap (λ (xs : List (Option ℕ)). filled xs (drop (k + 1) pairs))
          (starts ∙ ap (λ (x : ℕ × ℕ). slice_set old x.0 (Some x.1)) c.pair-item.is)
          ∙ sym (ap (filled old) (drop_more pairs k pair c.loop-pair-test.true)) ∙ i.filled;
      size = ap length starts ∙ length-set old pair.0 (Some pair.1) ∙ i.size;
      workers = c.set.ensures.workers ∙ i.workers;
    }

pub returns : goal.returns
returns c =
    let pairs = c.args.pairs.now in
    let n = length c.args.problem.now.splits in
    let i = c.loop-pair.invariant in
    let plan = c.loop-pair.plan.starts in
    record {
      starts = λ starts size of. sym (at_drop_all (filled plan) pairs c.loop-pair.pair-index (omega (arith, c.loop-pair-test.false)))
          ∙ i.filled ∙ ap (filled (replicate n None)) (sym of) ∙ filled_of n starts size;
      workers = i.workers;
    }
