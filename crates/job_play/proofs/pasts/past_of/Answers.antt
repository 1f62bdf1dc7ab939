use Rattle.std.proofs.Common.{◌≡◌, ◌∙◌, ap, map, subst, sym}
use Rattle.worker_table.specs.Workers.{opening_workers}
use Rattle.master_state.specs.States.{Cluster}
use Rattle.report_lines.specs.Past.{IsPast, opening_tables, past_from}
use Rattle.report_lines.proofs.Told.{legal_histories_are_pasts}
use Rattle.job_play.specs.Pasts.{past_at}
use Rattle.job_play.proofs.pasts.past_of.Goals as goal

pub new-requires-2 : goal.new-requires-2
new-requires-2 c =
    let job = c.args.master in
    let cluster : c.cluster-cluster.result.now ≡ job.setup.cluster = c.cluster-cluster.ensures in
    let tree = c.in_ok-tree.ensures ∙ c.tree.ensures ∙ ap (λ (x : Cluster). x.tree) cluster in
    let limit = c.holder_limit-limit.ensures ∙ ap (λ (x : Cluster). x.holder_limit) cluster in
    let slots = c.slots.ensures.value ∙ ap (λ (x : Cluster). x.slots) cluster in
    let silence = c.silence.ensures.count ∙ ap (λ (x : Cluster). x.silence) cluster in
    let workers : c.in_ok-new.field-0 ≡ (opening_tables job.setup).workers =
    c.in_ok-new.ensures ∙ (λ k. opening_workers (slots k) 0 (silence k) 0) in
    let holders : c.in_ok-first_holders.field-0 ≡ (opening_tables job.setup).holders =
    c.in_ok-first_holders.ensures
    ∙ ap (λ (x : Cluster). map (λ split. split.holders) x.splits) cluster in
    let same : past_from (record {
      tree = c.in_ok-tree.tree;
      limit = c.holder_limit-limit.result;
      target = c.args.target;
      history = c.into_history-history.result.0;
      sweeps = c.into_history-history.result.1;
    }) (record { workers = c.in_ok-new.field-0; holders = c.in_ok-first_holders.field-0 })
    ≡ past_at job c.args.target = λ k. record {
      tree = tree k;
      limit = limit k;
      target = c.args.target;
      opening = record { workers = workers k; holders = holders k };
      history = c.into_history-history.ensures.history k;
      sweeps = c.into_history-history.ensures.sweeps k;
    } in
    subst IsPast (sym same)
    (legal_histories_are_pasts job.setup c.args.target job.history job.state c.is_kept.ensures.whole
    c.is_kept.ensures.legal)
