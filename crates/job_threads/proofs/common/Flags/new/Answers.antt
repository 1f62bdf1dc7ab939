use Rattle.std.proofs.Common.{◌≡◌, ◌+◌, ◌++◌, ◌∷◌, [], ◌∙◌, ap, sym, arith}
use Rattle.std.proofs.lemmas.Grind.{common_steps}
use Rattle.std.proofs.lemmas.List.{map-id}
use Rattle.std.proofs.lemmas.List.FromFn.{map-range_with_len_more}
use Rattle.std.specs.List.{range_with_len}
use Rattle.job_threads.proofs.common.Flags.new.Goals as goal

pub loop-worker-preserved : goal.loop-worker-preserved
loop-worker-preserved c =
    let n = c.loop-worker.worker in
    let range : range_with_len 0 (n + 1) ≡ range_with_len 0 n ++ n ∷ [] =
    sym (map-id _) ∙ map-range_with_len_more (λ w. w) 0 n n (omega arith)
    ∙ ap (λ l. l ++ n ∷ []) (map-id _) in
    record {
      all = grind (arith, common_steps, range);
      size = grind (arith, common_steps);
      room = grind (arith, common_steps);
    }
