use Rattle.std.proofs.Common.{◌≡◌, List, [], ℕ, subst}
use Rattle.master_state.specs.declared.events.Event.TheVariants as events
use Rattle.shared_master.specs.Steps.{IsKeptAs}
use Rattle.job_threads.specs.Steps.{IsBack, known}
use Rattle.job_threads.proofs.Chains.{on_ok}
use Rattle.job_threads.proofs.caller.Caller.join_with.Goals as goal

pub returns-clause-back : goal.returns-clause-back
returns-clause-back g c =
    let old = c.args.self.now in
    let back : IsBack old.holdings.splits c.args.worker (known old.holdings.workers.items old.hand)
    (known c.take_back_if.new.self.workers.items c.join-answer.new.hand)
    = record {
      set = c.args.set.now;
      returning = c.requires;
      joined = record {
        answer = c.join-answer.result;
        told = subst
            (λ (l : List ℕ). IsKeptAs old.hand (events.Join c.args.worker l) [] c.join-answer.result
            c.join-answer.new.hand)
            c.in-Ok.ensures.0 c.join-answer.ensures.kept;
        changed = c.take_back_if.ensures.value;
      };
    } in
    on_ok c.judge.result _ back
