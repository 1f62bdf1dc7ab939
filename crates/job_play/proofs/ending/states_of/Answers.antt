use Rattle.std.proofs.Common.{rules, ◌∙◌, ◌++◌, ◌∷◌, List, [], sym, ap}
use Rattle.master_state.specs.declared.states.SplitState.{SplitState}
use Rattle.job_play.proofs.Played.{take_next}
use Rattle.job_play.proofs.ending.states_of.Goals as goal

pub loop-number-preserved : goal.loop-number-preserved
loop-number-preserved c = record {
  items = c.push_reserved.ensures.items
      ∙ ap (λ (states : List SplitState). states ++ c.state.result ∷ []) c.loop-number.invariant.items
      ∙ sym (take_next c.args.master.now.state.splits c.loop-number.number c.new.result c.state.result
      (search rules) c.state.ensures);
  len = search rules;
  room = search rules;
}
