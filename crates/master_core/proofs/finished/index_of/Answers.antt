use Rattle.std.proofs.Common.{Err, ◌∙◌, List, ap, subst}
use Rattle.shuffle_reduce.specs.Merged.{HaveWord, PartView}
use Rattle.shuffle_reduce.specs.Indexed.{HasDouble, HasMissing}
use Rattle.master_state.specs.States.{Cluster}
use Rattle.master_state.proofs.Headline.{none_missing}
use Rattle.master_core.proofs.AllParts.{no_double}
use Rattle.master_core.proofs.finished.index_of.Goals as goal

pub finish-requires-clause-covers : goal.finish-requires-clause-covers
finish-requires-clause-covers c =
    rw (c.texts.ensures, c.results.ensures.value)
    (λ k d inside. (c.results.ensures.exact.each k d inside).texts)

pub unreachable-requires : goal.unreachable-requires
unreachable-requires c =
    let job = c.args.master.now in
    let twice = c.finish.ensures.double.0 (c.in-Err-DoublePart.is ∙ ap Err c.in-Err-DoublePart.field-0-is) in
    no_double job.setup job.state job.results c.results.ensures.exact
    (subst HasDouble c.results.ensures.value twice)

pub unreachable-requires-in-Err-MissingPart : goal.unreachable-requires-in-Err-MissingPart
unreachable-requires-in-Err-MissingPart c =
    let job = c.args.master.now in
    let told = c.finish.ensures.missing.0
    (c.in-Err-MissingPart.is ∙ ap Err c.in-Err-MissingPart.field-0-is) in
    let parts = c.parts-parts.ensures.count ∙ ap (λ (cluster : Cluster). cluster.parts) c.cluster.ensures in
    none_missing job c.is_kept.ensures c.requires
    (subst (λ (results : List PartView). HasMissing results job.setup.cluster.parts) c.results.ensures.value
    (subst (λ n. HasMissing c.results.result.now n) parts told.1))

-- what wants memory has a word
pub returns-in-Err-Memory-clause-memory : goal.returns-in-Err-Memory-clause-memory
returns-in-Err-Memory-clause-memory c err =
    subst HaveWord c.texts.ensures (c.finish.ensures.memory
    (c.in-Err-Memory.is ∙ ap Err c.in-Err-Memory.field-0-is))
