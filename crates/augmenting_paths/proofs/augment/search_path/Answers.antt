use Rattle.std.proofs.Common.{◌≡◌, ◌∙◌, refl, arith}
use Rattle.std.specs.Prelude.{slice_index}
use Rattle.augmenting_paths.proofs.NextUnit.{may_search}
use Rattle.augmenting_paths.proofs.Shipped.{not_none, total_low, unit_found}
use Rattle.augmenting_paths.proofs.augment.search_path.Goals as goal

pub find-requires-clause-may : goal.find-requires-clause-may
find-requires-clause-may g c =
    may_search c.requires.kept.limits c.requires.next c.requires.kept.size c.requires.kept.lists
    c.requires.lifted refl

pub unreachable-requires : goal.unreachable-requires
unreachable-requires g c =
    let none = rw c.in-None.is at c.in_ok-path.ensures in
    not_none c.requires.next.can c.requires.next.left c.requires.lifted.state _
    c.requires.lifted.up c.in_ok-found.found c.in_ok-found.ensures.total c.in_ok-found.ensures.searched
    c.in_ok-found.ensures.path none

pub lower-buffers-requires-clause-low : goal.lower-buffers-requires-clause-low
lower-buffers-requires-clause-low g c =
    total_low c.requires.next.can c.requires.next.left c.requires.lifted.state _
    c.requires.lifted.up c.in_ok-found.found c.in_ok-found.ensures.total c.in_ok-found.ensures.searched
    c.in_ok-found.ensures.path c.requires.next.limit

pub returns-clause-kept : goal.returns-clause-kept
returns-clause-kept g c = record {
  limits = c.requires.kept.limits;
  looks = (let old = c.requires.kept.looks in let new = c.find.ensures.looks in omega arith);
  size = c.lower-buffers.ensures.size ∙ c.requires.kept.size;
  buffers = c.lower-buffers.ensures.nodes ∙ c.in_ok-found.ensures.size ∙ c.requires.kept.size;
  trail = c.open_all.ensures _ c.requires.kept.trail;
  lists = c.requires.kept.lists;
}

pub returns-clause-found : goal.returns-clause-found
returns-clause-found g c =
    let some : c.in-Some.path.items ≡ c.in_ok-found.found.path = rw c.in-Some.is at c.in_ok-path.ensures in
    rw some (unit_found c.requires.next.can c.requires.next.left c.requires.lifted.state _
    c.requires.lifted.up c.in_ok-found.found c.in_ok-found.ensures.total c.in_ok-found.ensures.searched
    c.in_ok-found.ensures.path (slice_index c.lower-buffers.new.potentials)
    c.lower-buffers.ensures.lowered)
