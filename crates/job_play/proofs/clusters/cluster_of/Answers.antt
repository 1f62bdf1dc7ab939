use Rattle.std.proofs.Common.{ℕ, List, Err, ◌∙◌, ap, length, subst, sym}
use Rattle.wave_problem.specs.Wave.{AreHeldWell}
use Rattle.job_play.proofs.clusters.cluster_of.Goals as goal

pub unreachable-requires-in-Err-Holder : goal.unreachable-requires-in-Err-Holder
unreachable-requires-in-Err-Holder c =
    let head = c.args.head in
    (c.new.ensures.holder.0 (c.in-Err-Holder.is ∙ ap Err c.in-Err-Holder.field-0-is)).1
    (subst (λ (slots : List ℕ). AreHeldWell (length slots) head.splits.items) (sym c.as_slice.ensures.value)
    c.requires.held_well)
