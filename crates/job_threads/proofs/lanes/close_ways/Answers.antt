use Rattle.std.proofs.Common.{◌≡◌, [], ◌∷◌, ◌∙◌, arith, length, sym, ap}
use Rattle.std.specs.Prelude.{slice_get}
use Rattle.std.proofs.lemmas.Grind.{common_steps}
use Rattle.std.proofs.lemmas.List.{append-nil}
use Rattle.job_threads.proofs.Halves.{behind, moved}
use Rattle.job_threads.proofs.lanes.close_ways.Goals as goal

pub loop-way-init : goal.loop-way-init
loop-way-init g c = (
  [],
  [],
  [],
  sym c.requires ∙ sym (append-nil _),
  sym (append-nil _),
  sym (append-nil _),
  tt,
)

pub close_way-requires : goal.close_way-requires
close_way-requires g c =
    let i = c.loop-way.invariant in
    let n : c.len.result ≡ length c.pop.new.self.items = grind (arith, common_steps) in
    ap (slice_get g.L.Aim.lanes) n
    ∙ behind g.L.Aim.lanes c.pop.new.self.items i.0 c.in-Some.way
    (moved _ _ _ _ _ i.3 c.in-Some.ensures.items)

pub loop-way-preserved : goal.loop-way-preserved
loop-way-preserved g c =
    let i = c.loop-way.invariant in (
      c.in-Some.way ∷ i.0,
      c.in-Some-Some.our ∷ i.1,
      c.in-Some-Some.their ∷ i.2,
      moved _ _ _ _ _ i.3 c.in-Some.ensures.items,
      moved _ _ _ _ _ i.4 c.in-Some-Some.ensures.items,
      moved _ _ _ _ _ i.5 c.in-Some-Some.ensures'.items,
      (c.in_ok-close_way.ensures.closed, i.6),
    )
