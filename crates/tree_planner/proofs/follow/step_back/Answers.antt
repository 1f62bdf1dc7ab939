use Rattle.std.proofs.Common.{◌≡◌, ℕ, ◌+◌, ◌-◌, ◌<◌, ◌∙◌, ap, sym, subst, arith}
use Rattle.tree_flow.specs.declared.nodes.End.{End}
use Rattle.tree_flow.specs.declared.nodes.Place.TheVariants.{Stands}
use Rattle.tree_planner.specs.declared.search.Step.TheVariants.{Down, Over, Start, Up}
use Rattle.tree_flow.specs.Moves.{IsFlowSet}
use Rattle.tree_flow.specs.Nodes.{parent, IsNode}
use Rattle.tree_planner.specs.Searching.{order_at, step_at}
use Rattle.tree_planner.specs.View.{state_of}
use Rattle.tree_planner.specs.Way.{IsFollowing}
use Rattle.tree_planner.proofs.Followed.{follow_down, follow_over, follow_start, follow_up, stood, tight_at}
use Rattle.tree_flow.proofs.Moved.{here_now}
use Rattle.tree_flow.proofs.Under.{slots-most}
use Rattle.tree_planner.proofs.follow.step_back.Goals as goal

pub overflow_add-units : goal.overflow_add-units
overflow_add-units c =
    let wave = c.args.problem.now in
    let most = slots-most wave c.limits.ensures.problem c.args.node in
    let each = c.requires.following.kept.balanced.each c.args.node in
    let is = c.get-units.ensures 0 in
    omega arith

pub stood_at-end-requires-clause-stands : goal.stood_at-end-requires-clause-stands
stood_at-end-requires-clause-stands c =
    let wave = c.args.problem.now in
    let now = state_of c.args.tables.now in
    let step : step_at c.args.search.now c.args.node ≡ Over c.in-Over.split c.in-Over.level =
    sym (c.in-Over.ensures Down) in
    let at = stood wave now now c.args.search.now c.args.node c.requires.following c.in-Over.split c.in-Over.level
    step in
    (at.0, at.1)

pub returns-in-Start-clause-hole : goal.returns-in-Start-clause-hole
returns-in-Start-clause-hole c =
    let wave = c.args.problem.now in
    let now = state_of c.args.tables.now in
    let new = state_of c.place.new.tables in
    let search = c.args.search.now in
    let step : step_at search c.args.node ≡ Start c.in-Start.level = sym (c.in-Start.ensures Down) in
    let end : End = record { node = c.args.node; level = c.in-Start.level } in
    record {
      kept = follow_start wave now new search c.args.node c.requires.following c.in-Start.level step
          c.place.ensures.placed;
      shipped = λ e. (let here = here_now wave now new search.split (Stands end) c.place.ensures.placed in cc);
    }

pub returns-in-Down-clause-hole : goal.returns-in-Down-clause-hole
returns-in-Down-clause-hole c =
    let wave = c.args.problem.now in
    let now = state_of c.args.tables.now in
    let new = state_of c.set_flow.new.tables in
    let search = c.args.search.now in
    let node = c.args.node in
    let step : step_at search node ≡ Down = sym (c.in-Down.ensures Down) in
    let up : c.parent.result ≡ parent wave.tree node =
    c.parent.ensures.node ∙ ap (λ t. parent t node) c.tree.ensures.tree in
    let known : IsNode wave.tree c.parent.result = subst (λ t. IsNode t c.parent.result) c.tree.ensures.tree
    c.parent.ensures.known in
    let t = tight_at wave now new search node c.requires.following Down step in
    subst (λ v. IsFollowing wave new search v × (order_at search v < order_at search node)) (sym up) (
      follow_down wave now new search node c.requires.following step
          (subst (λ v. IsNode wave.tree v) up known)
          (subst (λ n. IsFlowSet now new node n) (ap (λ (n : ℕ). n + 1) (c.get-units.ensures 0))
          c.set_flow.ensures.set),
      t.before,
    )

pub returns-in-Up-clause-hole : goal.returns-in-Up-clause-hole
returns-in-Up-clause-hole c =
    let wave = c.args.problem.now in
    let now = state_of c.args.tables.now in
    let new = state_of c.set_flow-in-Up.new.tables in
    let search = c.args.search.now in
    let node = c.args.node in
    let below = c.in-Up.below in
    let step : step_at search node ≡ Up below = sym (c.in-Up.ensures Down) in
    let t = tight_at wave now new search node c.requires.following (Up below) step in (
      follow_up wave now new search node c.requires.following below step
          (subst (λ n. IsFlowSet now new below n) (ap (λ (n : ℕ). n - 1) (c.get-units-in-Up.ensures 0))
          c.set_flow-in-Up.ensures.set),
      t.before,
    )

pub returns-in-Over-clause-hole : goal.returns-in-Over-clause-hole
returns-in-Over-clause-hole c =
    let wave = c.args.problem.now in
    let now = state_of c.args.tables.now in
    let new = state_of c.place-in-Over.new.tables in
    let search = c.args.search.now in
    let node = c.args.node in
    let end = c.stood_at-end.result in
    let step : step_at search node ≡ Over c.in-Over.split c.in-Over.level = sym (c.in-Over.ensures Down) in
    let o = tight_at wave now new search node c.requires.following (Over c.in-Over.split c.in-Over.level) step in
    let was = c.requires.following.places c.in-Over.split o.end o.stands o.before in
    let here = c.stood_at-end.ensures in
    let same : o.end ≡ end = grind arith in
    let order = ap (λ (e : End). order_at search e.node) same in
    let before = o.before in (
      follow_over wave now new search node c.requires.following c.in-Over.split c.in-Over.level end step here
          c.place-in-Over.ensures.placed,
      omega arith,
    )
