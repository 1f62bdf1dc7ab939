use Rattle.augmenting_paths.proofs.Starts.{can_ship_from, starts_of}
use Rattle.augmenting_paths.proofs.requirements.can_ship_over.Goals as goal

pub returns : goal.returns
returns g c =
    let all = rw (
      c.deref.ensures.value,
      c.in_ok-starts.ensures,
      c.index-end.ensures,
      c.layout.ensures.value,
      c.layout-2.ensures.value,
      c.all_arcs-arcs.ensures.value,
    ) at c.are_starts_with_paths-may_ship.ensures in (
      (λ t. let both = all.0 t in can_ship_from _ _ _ _ c.layout.ensures.limits.arcs_in both.0 both.1),
      (λ can. all.1 (starts_of can, can.paths)),
    )
