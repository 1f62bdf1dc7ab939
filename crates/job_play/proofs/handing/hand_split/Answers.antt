use Rattle.std.proofs.Common.{◌∙◌, [], length, sym, ap, arith}
use Rattle.std.proofs.lemmas.List.{length-map}
use Rattle.std.specs.Arc.{arc_value}
use Rattle.std.specs.declared.alloc.Global.{Global}
use Rattle.std.specs.declared.sync.Arc.{Arc}
use Rattle.word_map.specs.Texts.{SplitDocuments}
use Rattle.master_state.specs.States.{Cluster}
use Rattle.job_play.proofs.Handed.{old_split, text_at, text_inside}
use Rattle.job_play.proofs.Writing.{plainly}
use Rattle.job_play.proofs.handing.hand_split.Goals as goal

pub returns-then-not-split_runs : goal.returns-then-not-split_runs
returns-then-not-split_runs c =
    old_split c.args.master.now c.args.attempt c.args.split c.requires.0 c.state.result c.is_kept.ensures
    c.requires.1
    c.state.ensures (sym c.split_runs.ensures ∙ c.if-not-split_runs.true)

pub bounds-texts-index : goal.bounds-texts-index
bounds-texts-index c =
    let inside = text_inside c.args.master.now c.args.attempt c.args.split c.requires.0 c.is_kept.ensures
    c.requires.1
    in
    omega (
      arith,
      inside,
      c.index.ensures.value,
      ap length c.texts.ensures,
      length-map c.texts.result.now (λ (text : Arc SplitDocuments Global). arc_value text),
    )

pub returns : goal.returns
returns c =
    let job = c.args.master.now in
    let inside = text_inside job c.args.attempt c.args.split c.requires.0 c.is_kept.ensures c.requires.1 in
    let text = text_at c.texts.result.now job.setup.cluster.texts c.index.result c.args.split
    c.index-texts-index.result (record { split = c.args.split; documents = [] }) c.texts.ensures
    c.index.ensures.value c.index-texts-index.is inside in
    record {
      result = c.in_ok-made.made;
      text = c.in_ok-made.ensures.text ∙ c.in_ok-text.ensures ∙ text;
      parts = c.in_ok-made.ensures.parts ∙ c.parts.ensures.count
          ∙ ap (λ (cluster : Cluster). cluster.parts) c.cluster.ensures;
      answers = rw c.plain.ensures (plainly _ _ _ _ c.map_done.ensures.answer);
    }
