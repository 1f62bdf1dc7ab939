use Rattle.std.proofs.Common.{◌<◌, length}
use Rattle.std.proofs.lemmas.List.Elements.{All-map}
use Rattle.wave_arrays.proofs.build.build_tree.Goals as goal

pub from_lists-requires-clause-workers : goal.from_lists-requires-clause-workers
from_lists-requires-clause-workers c = rw (
  c.in_ok-rack_of.ensures,
  c.in_ok-centre_of.ensures,
) (All-map (λ rack. rack < length c.args.rows.now.centre_of.now) (λ row. row.rack)
    c.args.rows.now.workers.now c.requires.workers.known)
