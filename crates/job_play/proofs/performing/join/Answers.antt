use Rattle.std.proofs.Common.{◌<◌, length}
use Rattle.std.proofs.lemmas.Result.{on_ok_weaker}
use Rattle.job_play.proofs.Known.{known_row}
use Rattle.job_play.proofs.Writing.{answered}
use Rattle.job_play.proofs.performing.join.Goals as goal

pub join-requires : goal.join-requires
join-requires c = (
  c.requires.worker,
  rw c.in_ok-set.ensures (known_row (λ s. s < length c.args.master.now.setup.cluster.splits) c.args.splits.now
      c.requires.splits),
)

pub returns : goal.returns
returns c = on_ok_weaker _ (λ next. answered _ _ _ _ _ _ (rw c.in_ok-set.ensures at c.join.ensures) next)
    c.add_answer.ensures
