use Rattle.std.proofs.Common.{length, ap, refl, subst, sym, ◌∙◌, arith}
use Rattle.tree_planner.specs.declared.tables.Tables.{Tables}
use Rattle.tree_planner.specs.Engine.{with_depth}
use Rattle.tree_planner.specs.Lows.{AreLow}
use Rattle.tree_planner.specs.Searching.{state_at, wave_of, IsBlank}
use Rattle.tree_planner.specs.View.{state_of}
use Rattle.tree_planner.specs.Way.{IsReady}
use Rattle.tree_flow.specs.State.{place_of}
use Rattle.tree_flow.specs.Table.{at_node}
use Rattle.tree_planner.proofs.Tight.{ready}
use Rattle.tree_planner.proofs.engine.find.Goals as goal

pub returns-clause-ready : goal.returns-clause-ready
returns-clause-ready c = λ depth deeper.
    (let g = c.ground_of.result in
    let p = c.ground_of.ensures.problem in
    let t = c.ground_of.ensures.tables in
    let search = c.find_way.new.search in
    subst (λ w. IsReady w (with_depth (state_of c.args.tables.now) depth) search) p
    (subst (λ t. IsReady (wave_of g) (with_depth (state_of t) depth) search) t
    (ready g c.ground_of.ensures.ground search c.find_way.ensures.searched (with_depth (state_at g) depth) refl refl
    refl refl
    (λ v.
    (let deep = deeper v in
    let worth = ap (λ (t : Tables). t.worth) t in
    let d = ap (λ (t : Tables). at_node t.depth v) t in
    omega arith))
    (ap (λ s. place_of (state_at g) s) c.find_way.ensures.split
    ∙ ap (λ t. place_of (state_of t) c.args.split) t ∙ c.requires.unshipped))))

pub find_way-requires-clause-blank : goal.find_way-requires-clause-blank
find_way-requires-clause-blank c =
    let g = c.ground_of.result in
    let search = c.args.search.now in
    subst (λ w. IsBlank w.tree (length g.nodes.now) search) (sym c.ground_of.ensures.problem)
    (subst (λ xs. IsBlank c.args.problem.now.tree (length xs) search) (sym c.ground_of.ensures.nodes)
    c.requires.blank)

pub returns-clause-room : goal.returns-clause-room
returns-clause-room c = c.find_way.ensures.searched.searching.room ∙ ap (λ xs. length xs) c.ground_of.ensures.nodes

pub find_way-requires-clause-low : goal.find_way-requires-clause-low
find_way-requires-clause-low c =
    let lows = c.args.search.now.lows in
    let g = c.ground_of.result in
    subst (λ w. AreLow w (state_at g) lows) (sym c.ground_of.ensures.problem)
    (subst (λ t. AreLow c.args.problem.now (state_of t) lows) (sym c.ground_of.ensures.tables) c.requires.low)

pub returns-clause-low : goal.returns-clause-low
returns-clause-low c =
    let lows = c.find_way.new.search.lows in
    subst (λ t. AreLow c.args.problem.now (state_of t) lows) c.ground_of.ensures.tables
    (subst (λ w. AreLow w (state_at c.ground_of.result) lows) c.ground_of.ensures.problem c.find_way.ensures.low)
