use Rattle.std.proofs.Common.{rules, ◌∙◌, ◌++◌, ◌∷◌, List, [], sym, ap}
use Rattle.master_state.specs.declared.states.PartState.{PartState}
use Rattle.job_play.proofs.Played.{take_next}
use Rattle.live_master.proofs.requests.parts_of.Goals as goal

pub loop-number-preserved : goal.loop-number-preserved
loop-number-preserved c = record {
  items = c.push_reserved.ensures.items
      ∙ ap (λ (states : List PartState). states ++ c.part_state.result ∷ []) c.loop-number.invariant.items
      ∙ sym (take_next c.args.master.now.state.parts c.loop-number.number c.new.result c.part_state.result
      (search rules) c.part_state.ensures);
  len = search rules;
  room = search rules;
}
