use Rattle.std.proofs.Common.{◌∙◌, List, sym, ap, arith, subst}
use Rattle.word_map.specs.Texts.{SplitDocuments}
use Rattle.shuffle_reduce.specs.Merged.{AreSameTexts}
use Rattle.master_state.specs.States.{Cluster}
use Rattle.shuffle_reduce.specs.Gather.{texts_of_runs}
use Rattle.job_play.proofs.Handed.{old_part, part_inside, runs_given}
use Rattle.job_play.proofs.Writing.{plainly}
use Rattle.job_play.proofs.handing.hand_part.Goals as goal

pub returns-then-not-part_runs : goal.returns-then-not-part_runs
returns-then-not-part_runs c =
    old_part c.args.master.now c.args.attempt c.args.part c.requires.started.0 c.part_state.result
    c.is_kept.ensures
    c.requires.started.1 c.part_state.ensures (sym c.part_runs.ensures ∙ c.if-not-part_runs.true)

pub of-requires : goal.of-requires
of-requires c =
    let inside = part_inside c.args.master.now c.args.attempt c.args.part c.requires.started.0
    c.is_kept.ensures c.requires.started.1 in
    omega (arith, inside, c.requires.given.parts)

pub merge-requires-clause-in_range : goal.merge-requires-clause-in_range
merge-requires-clause-in_range c =
    let inside = part_inside c.args.master.now c.args.attempt c.args.part c.requires.started.0
    c.is_kept.ensures c.requires.started.1 in
    let same = ap (λ (cluster : Cluster). cluster.parts) c.cluster.ensures in
    omega (arith, inside, c.parts.ensures.count, same)

pub merge-requires-clause-same : goal.merge-requires-clause-same
merge-requires-clause-same c =
    let runs = runs_given c.args.master.now c.args.given.now c.args.attempt c.args.part c.requires.started.0
    c.requires.given c.requires.started.1 in
    rw (c.of.ensures, c.parts.ensures.count, c.cluster.ensures) runs.of_part

pub returns : goal.returns
returns c =
    let job = c.args.master.now in
    let runs = runs_given job c.args.given.now c.args.attempt c.args.part c.requires.started.0
    c.requires.given
    c.requires.started.1 in
    let texts = c.in_ok-made.ensures.texts ∙ ap texts_of_runs c.of.ensures ∙ runs.texts in
    record {
      result = c.in_ok-made.made;
      part_is = c.in_ok-made.ensures.part;
      parts = c.in_ok-made.ensures.parts ∙ c.parts.ensures.count
          ∙ ap (λ (cluster : Cluster). cluster.parts) c.cluster.ensures;
      texts = subst (λ (given : List SplitDocuments). AreSameTexts given job.setup.cluster.texts) (sym texts)
          (λ text. (λ h. h, λ h. h));
      answers = rw c.plain.ensures (plainly _ _ _ _ c.part_done.ensures.answer);
    }
