use Rattle.std.proofs.Common.{◌≡◌, ◌++◌, ◌∷◌, [], ◌∙◌, ap, length, map, sym, true, rules, arith}
use Rattle.std.proofs.lemmas.List.{append-nil}
use Rattle.std.proofs.lemmas.Grind.{common_steps}
use Rattle.std.specs.Result.{is_ok}
use Rattle.job_threads.specs.Holdings.{upto}
use Rattle.job_threads.proofs.Chains.{laned_more, numbered_more, upto_zero}
use Rattle.job_threads.proofs.running.make_workers.Goals as goal

pub loop-pass-init : goal.loop-pass-init
loop-pass-init g c =
    let none = c.new-all.ensures.items in
    record {
      count = grind (arith, common_steps);
      seats = ap (map (λ w. w.pulse.worker)) none ∙ sym upto_zero;
      lanes = sym (append-nil _) ∙ ap (λ l. map (λ lane. lane.lane) c.args.caller.now.lanes.items ++ l)
          (sym (ap (map (λ w. w.orders.lane)) none));
    }

pub loop-pass-preserved : goal.loop-pass-preserved
loop-pass-preserved g c =
    let ok : is_ok c.push.result ≡ true = search rules in
    let pushed : c.push.new.self.items ≡ c.loop-pass.all.items ++ c.in_ok-made.made ∷ [] =
    grind (arith, common_steps) in
    let made = c.in_ok-made.ensures in
    let all = c.loop-pass.invariant in
    let same : c.new-worker.result ≡ length c.loop-pass.yielded = grind (arith, common_steps) in
    record {
      count = grind (arith, common_steps);
      seats = numbered_more (λ w. w.pulse.worker) _ _ _ _ _ pushed all.seats made.seat same
          ∙ ap upto (grind (arith, common_steps));
      lanes = laned_more (λ lane. lane.lane) (λ w. w.orders.lane) _ _ _ _ _ _ pushed all.lanes made.lane;
    }
