use Rattle.std.proofs.Common.{◌≡◌, ◌+◌, ◌^◌, ◌<◌, arith, refl, subst}
use Rattle.tree_planner.specs.declared.search.Goal.TheVariants.{Slot}
use Rattle.tree_planner.specs.Reaching.{IsNoted}
use Rattle.tree_planner.specs.Searching.{far_at, wave_of}
use Rattle.tree_planner.proofs.Added.{over_sized}
use Rattle.tree_planner.proofs.Improved.{ends_same, ends_there, reach_kept}
use Rattle.tree_planner.proofs.search.Search.reach.Goals as goal

pub returns-then-distance-rest-clause-kept : goal.returns-then-distance-rest-clause-kept
returns-then-distance-rest-clause-kept c = λ g ground s own known leads.
    (let old = c.args.self.now in
    let far = c.set.new.self in
    let how = c.set-then-distance-far.new.self in
    let is : c.get-far.result ≡ far_at old c.args.node = c.get-far.ensures (2 ^ 60) in
    let v = c.args.node in
    let d = c.args.distance in
    let r = c.args.rest in
    let st = c.args.step in
    let nearer : d < old.bound = omega arith in
    let near : d < far_at old v = omega arith in
    let h = c.set.ensures.here in
    let o = c.set.ensures.others in
    let hh = c.set-then-distance-far.ensures.here in
    let ho = c.set-then-distance-far.ensures.others in
    let b = c.requires.beyond in
    let row = c.note.new.self in
    let noted = subst (λ f. IsNoted old.reached row v f d) is c.note.ensures in
    let limit = s.limit in
    let small = ground.small in
    let most = s.bound in
    let short : d < 2 ^ 60 = omega arith in
    reach_kept old far how v d st nearer near short (d + r) (Slot v) (omega arith) b h o hh ho row noted g ground
    known
    (over_sized (wave_of g).tree old.far far s.tables.far c.set.ensures.size)
    (over_sized (wave_of g).tree old.how how s.tables.how c.set-then-distance-far.ensures.size) s leads
    (ends_there old far how v d st nearer near short (d + r) (Slot v) (omega arith) b h o hh ho row noted g s known
    r (own.found (omega arith)) refl) r own (omega arith))

pub returns-else-distance-rest-clause-kept : goal.returns-else-distance-rest-clause-kept
returns-else-distance-rest-clause-kept c = λ g ground s own known leads.
    (let old = c.args.self.now in
    let far = c.set.new.self in
    let how = c.set-then-distance-far.new.self in
    let is : c.get-far.result ≡ far_at old c.args.node = c.get-far.ensures (2 ^ 60) in
    let v = c.args.node in
    let d = c.args.distance in
    let st = c.args.step in
    let nearer : d < old.bound = omega arith in
    let near : d < far_at old v = omega arith in
    let h = c.set.ensures.here in
    let o = c.set.ensures.others in
    let hh = c.set-then-distance-far.ensures.here in
    let ho = c.set-then-distance-far.ensures.others in
    let b = c.requires.beyond in
    let row = c.note.new.self in
    let noted = subst (λ f. IsNoted old.reached row v f d) is c.note.ensures in
    let short : d < 2 ^ 60 =
    (let limit = s.limit in let small = ground.small in let most = s.bound in omega arith) in
    reach_kept old far how v d st nearer near short old.bound old.goal (omega arith) b h o hh ho row noted g
    ground known
    (over_sized (wave_of g).tree old.far far s.tables.far c.set.ensures.size)
    (over_sized (wave_of g).tree old.how how s.tables.how c.set-then-distance-far.ensures.size) s leads
    (ends_same old far how v d st nearer near short old.bound old.goal (omega arith) b h o hh ho row noted g s
    refl refl) c.args.rest own (omega arith))
