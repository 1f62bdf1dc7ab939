use Rattle.wave_arrays.proofs.Limits.{within_limits}
use Rattle.wave_arrays.proofs.build.build_problem.Goals as goal

pub within_limits-requires : goal.within_limits-requires
within_limits-requires c = rw (
  c.in_ok-tree.ensures,
  c.in_ok-workers.ensures,
  c.deref-2.ensures.value,
  c.in_ok-splits.ensures,
  c.deref.ensures.value,
  c.in_ok-holders.ensures,
  c.in_ok-barred.ensures,
) (within_limits c.args.rows.now c.requires)
