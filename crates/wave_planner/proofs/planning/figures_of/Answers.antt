use Rattle.std.proofs.Common.{sym, true≢false}
use Rattle.wave_planner.proofs.planning.figures_of.Goals as goal

pub unreachable-requires : goal.unreachable-requires
unreachable-requires c = true≢false (sym (c.in-Err.ensures.certified.1 c.requires.certifies))
