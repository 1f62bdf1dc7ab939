use Rattle.std.proofs.Common.{◌∙◌, refl, arith}
use Rattle.std.specs.Prelude.{slice_index}
use Rattle.augmenting_paths.proofs.NextUnit.{may_search}
use Rattle.augmenting_paths.proofs.Shipped.{start_in, start_level, own_way, lifted_found}
use Rattle.augmenting_paths.proofs.augment.find_path.Goals as goal

pub lift-requires-clause-source : goal.lift-requires-clause-source
lift-requires-clause-source g c =
    start_in c.requires.next.can c.requires.next.left c.requires.state

pub lift-requires-clause-level : goal.lift-requires-clause-level
lift-requires-clause-level g c =
    start_level c.requires.next.can c.requires.next.left c.requires.state

pub lift-requires-clause-arc : goal.lift-requires-clause-arc
lift-requires-clause-arc g c =
    let w = own_way c.requires.next.can c.requires.next.left c.requires.state in
    let low = w.4 in
    (w.0, w.1, w.2, w.3, omega arith)

pub tight_path-requires-clause-may : goal.tight_path-requires-clause-may
tight_path-requires-clause-may g c =
    may_search c.requires.kept.limits c.requires.next (c.lift.ensures.size ∙ c.requires.kept.size)
    c.requires.kept.lists (record {
      h = slice_index c.args.shipping.potentials;
      state = c.requires.state;
      up = c.lift.ensures.lifted;
    }) refl

pub returns-then-branch-clause-found : goal.returns-then-branch-clause-found
returns-then-branch-clause-found g c =
    lifted_found c.requires.next.can c.requires.next.left c.requires.state _
    c.lift.ensures.lifted _ (c.in_ok-tight_path.ensures.tight c.if-branch.true)
