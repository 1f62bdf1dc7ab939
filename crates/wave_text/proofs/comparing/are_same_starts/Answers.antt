use Rattle.std.proofs.Common.{arith, None}
use Rattle.std.proofs.lemmas.List.{ext_get_or}
use Rattle.wave_text.proofs.comparing.are_same_starts.Goals as goal

pub returns : goal.returns
returns c = grind (arith, ext_get_or None c.args.plan.now.starts c.args.other.now.starts)
