use Rattle.std.proofs.Common.{◌≡◌, refl, subst}
use Rattle.std.specs.Arc.{arc_value}
use Rattle.std.specs.declared.alloc.Global.{Global}
use Rattle.std.specs.declared.sync.Arc.{Arc}
use Rattle.std.proofs.lemmas.List.{take_all}
use Rattle.word_map.specs.Runs.{RunView}
use Rattle.shuffle_reduce.specs.Gather.{AreOfPart}
use Rattle.shuffle_reduce.proofs.IndexLemmas.{all_more}
use Rattle.shuffle_reduce.proofs.part.are_of_part.Goals as goal

pub loop-run-preserved : goal.loop-run-preserved
loop-run-preserved c =
    all_more (λ (run : Arc RunView Global). ((arc_value run).part ≡ c.args.part) ×
    ((arc_value run).parts ≡ c.args.parts)) c.args.runs.now c.loop-run.run-index c.loop-run-test.true
    c.run-item.is c.loop-run.invariant
    (rw c.deref.ensures at (c.if-not-is_of_part.ensures.0 refl))

pub returns : goal.returns
returns c = (
  (λ _. subst (λ rs. AreOfPart rs c.args.part c.args.parts)
      (take_all c.loop-run.run-index c.args.runs.now c.loop-run-test.false) c.loop-run.invariant),
  (λ _. refl),
)
