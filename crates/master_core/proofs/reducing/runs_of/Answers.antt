use Rattle.std.proofs.Common.{refl, ap, ◌∙◌, arith}
use Rattle.std.specs.declared.alloc.Global.{Global}
use Rattle.std.specs.declared.sync.Arc.{Arc}
use Rattle.std.specs.declared.vec.Vec.{Vec}
use Rattle.word_map.specs.Runs.{RunView}
use Rattle.master_state.specs.Tests.{is_done}
use Rattle.master_tables.specs.Entries.{shown_as}
use Rattle.master_tables.proofs.Counting.{all_at}
use Rattle.master_core.proofs.Replying.{made_for, run_replied, not_done}
use Rattle.master_core.proofs.reducing.runs_of.Goals as goal
use Rattle.master_core.proofs.reducing.runs_of.Goals.{in-Done+in_ok-clone+in_ok-push, in_default}

pub run-requires : goal.run-requires
run-requires c =
    let made = made_for c.args.cluster.now c.args.entries.now c.loop-entry.entry-index c.entry-item.result
    c.in-Done.field-0 c.in-Done.made c.requires.made c.loop-entry-test.true c.entry-item.is c.in-Done.is in
    omega (arith, c.requires.part, made.parts)

pub loop-entry-preserved : goal.loop-entry-preserved
loop-entry-preserved c =
    let cluster = c.args.cluster.now in
    let i = c.loop-entry.entry-index in
    elim c.match-entry.branch [
      | in-Done+in_ok-clone+in_ok-push w ↦
          let made = made_for cluster c.args.entries.now i c.entry-item.result w.in-Done.field-0
          w.in-Done.made c.requires.made c.loop-entry-test.true c.entry-item.is w.in-Done.is in
          let value = w.in_ok-clone.ensures.cases in
          let both = run_replied cluster c.loop-entry.runs.items c.match-entry.runs.items c.args.part i
          w.in_ok-clone.field-0 (ap (λ (runs : Vec (Arc RunView Global) Global). runs.items) w.runs-is
          ∙ w.in_ok-push.ensures.items) (omega (arith, c.loop-entry-test.true, c.requires.splits))
          (ap (λ (run : RunView). run.part) value ∙ w.run.ensures.same_part)
          (ap (λ (run : RunView). run.parts) value ∙ w.run.ensures.same_parts ∙ made.parts)
          (ap (λ (run : RunView). run.text) value ∙ w.run.ensures.same_text ∙ made.text)
          c.loop-entry.invariant.of_part c.loop-entry.invariant.texts in
          record { of_part = both.0; texts = both.1 }
      | in_default w ↦
          let done = all_at shown_as is_done c.args.entries.now i c.entry-item.result _ c.loop-entry-test.true
          c.entry-item.is refl c.requires.done in
          absurd (not_done c.entry-item.result done w.in_default.not-Done)
    ]
