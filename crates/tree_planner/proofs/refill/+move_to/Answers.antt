use Rattle.std.proofs.Common.{◌≡◌, ℕ, ◌+◌, ◌-◌, ◌∙◌, ap, sym, subst, arith}
use Rattle.tree_flow.specs.Moves.{IsFlowSet}
use Rattle.tree_flow.specs.Nodes.{parent}
use Rattle.tree_flow.proofs.Under.{slots-most}
use Rattle.tree_planner.specs.declared.back.StepBack.TheVariants.{Over, Rise, Sink, Start}
use Rattle.tree_planner.specs.SearchingBack.{step_at}
use Rattle.tree_planner.specs.View.{state_of}
use Rattle.tree_planner.specs.WayBack.{HasMoved}
use Rattle.tree_planner.proofs.Refilled.{moved_down, moved_over, moved_up}
use Rattle.tree_planner.proofs.refill.+move_to.Goals as goal

pub overflow_add-units : goal.overflow_add-units
overflow_add-units t c =
    let wave = c.args.problem.now in
    let each = c.move_to.ensures.moved.kept.balanced.each c.in-Rise.below in
    let most = slots-most wave c.limits.ensures.problem c.in-Rise.below in
    let is = c.get-units.ensures 0 in
    omega arith

pub returns-in-Rise-clause-moved : goal.returns-in-Rise-clause-moved
returns-in-Rise-clause-moved t c =
    let now = state_of c.move_to.new.tables in
    let new = state_of c.put_units.new.tables in
    let below = c.in-Rise.below in
    let step : step_at c.args.search.now c.args.node ≡ Rise below = sym (c.in-Rise.ensures Start) in
    moved_up c.args.problem.now (state_of c.args.tables.now) now new c.args.search.now c.args.node
    c.requires.ready
    c.requires.on_way below step c.move_to.ensures.moved
    (subst (λ n. IsFlowSet now new below n) (ap (λ (n : ℕ). n + 1)
    (c.get-units.ensures 0)) c.put_units.ensures.set)

pub returns-in-Sink-clause-moved : goal.returns-in-Sink-clause-moved
returns-in-Sink-clause-moved t c =
    let wave = c.args.problem.now in
    let first = state_of c.args.tables.now in
    let now = state_of c.move_to-in-Sink.new.tables in
    let new = state_of c.put_units-in-Sink.new.tables in
    let search = c.args.search.now in
    let node = c.args.node in
    let step : step_at search node ≡ Sink = sym (c.in-Sink.ensures Start) in
    let up : c.parent-up.result ≡ parent wave.tree node =
    c.parent-up.ensures.node ∙ ap (λ t. parent t node) c.tree.ensures.tree in
    moved_down wave first now new search node c.requires.ready c.requires.on_way step
    (subst (λ v. HasMoved wave first now search v) up c.move_to-in-Sink.ensures.moved)
    (subst (λ n. IsFlowSet now new node n) (ap (λ (n : ℕ). n - 1) (c.get-units-in-Sink.ensures 0))
    c.put_units-in-Sink.ensures.set)

pub returns-in-Over-clause-moved : goal.returns-in-Over-clause-moved
returns-in-Over-clause-moved t c =
    let step : step_at c.args.search.now c.args.node ≡ Over c.in-Over.split c.in-Over.end =
    sym (c.in-Over.ensures Start) in
    moved_over c.args.problem.now (state_of c.args.tables.now) (state_of c.move_to-in-Over.new.tables)
    (state_of c.put_split.new.tables) c.args.search.now c.args.node c.requires.ready c.requires.on_way
    c.in-Over.split
    c.in-Over.end step c.move_to-in-Over.ensures.moved c.put_split.ensures.placed
