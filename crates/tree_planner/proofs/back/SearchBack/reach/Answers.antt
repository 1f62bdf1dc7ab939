use Rattle.std.proofs.Common.{◌≡◌, ◌^◌, ◌<◌, arith, subst}
use Rattle.tree_planner.specs.Reaching.{IsAdded}
use Rattle.tree_planner.specs.SearchingBack.{far_at, wave_of}
use Rattle.tree_planner.proofs.Added.{over_sized}
use Rattle.tree_planner.proofs.ImprovedBack.{reach_kept}
use Rattle.tree_planner.proofs.back.SearchBack.reach.Goals as goal

pub returns-then-distance-far-clause-kept : goal.returns-then-distance-far-clause-kept
returns-then-distance-far-clause-kept c = λ h s known leads.
    (let old = c.args.self.now in
    let far = c.set.new.self in
    let how = c.set-then-distance-far.new.self in
    let row = c.note.new.row in
    let is : c.get-far.result ≡ far_at old c.args.node = c.get-far.ensures (2 ^ 60) in
    let near : c.args.distance < far_at old c.args.node = omega arith in
    reach_kept old far how c.args.node c.args.distance c.args.step (omega arith) near c.requires.beyond
    c.set.ensures.here c.set.ensures.others c.set-then-distance-far.ensures.here
    c.set-then-distance-far.ensures.others row
    (subst (λ f. IsAdded old.reached.items row.items c.args.node f) is c.note.ensures.added) c.note.ensures.room h
    known (over_sized (wave_of h).tree old.far far s.tables.far c.set.ensures.size)
    (over_sized (wave_of h).tree old.how how s.tables.how c.set-then-distance-far.ensures.size) s leads)
