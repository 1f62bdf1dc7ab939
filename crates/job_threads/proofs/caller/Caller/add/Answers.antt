use Rattle.job_threads.specs.Steps.{IsAdded, known}
use Rattle.job_threads.proofs.Chains.{on_ok}
use Rattle.job_threads.proofs.caller.Caller.add.Goals as goal

pub returns-clause-added : goal.returns-clause-added
returns-clause-added g c =
    let old = c.args.self.now in
    let added : IsAdded c.args.split c.args.worker (known old.holdings.workers.items old.hand)
    (known c.add_if.new.self.workers.items c.add-answer.new.hand)
    = record {
      answer = c.add-answer.result;
      told = c.add-answer.ensures.kept;
      changed = c.add_if.ensures.value;
    } in
    on_ok c.judge.result _ added
