use Rattle.std.proofs.Common.{◌≡◌, ◌-◌, ap, subst, arith}
use Rattle.tree_planner.specs.Handing.{IsUnitAt}
use Rattle.tree_flow.specs.Nodes.{IsNode}
use Rattle.tree_flow.specs.Settled.{HasComeDown}
use Rattle.tree_flow.specs.Table.{at_node, IsOver}
use Rattle.tree_planner.proofs.Added.{over_sized}
use Rattle.tree_planner.proofs.Handed.{come_on, go_on, height, height_less, land, land_on, lower, next, set_falls}
use Rattle.tree_planner.proofs.hand_down.+go_down.Goals as goal

pub returns-in-Worker-clause-landed : goal.returns-in-Worker-clause-landed
returns-in-Worker-clause-landed t c = λ now s e u.
    (let wave = c.args.problem.now in
    let w = c.in-Worker.worker in
    let left = c.args.left.now in
    let lines = c.limits.ensures.problem.one_line_each in
    let known = subst (λ v. IsNode wave.tree v) c.in-Worker.is c.requires.known in
    land wave left w s now e (subst (λ v. IsUnitAt wave left v now s e) c.in-Worker.is u) (omega arith))

pub go_down-requires : goal.go_down-requires
go_down-requires t c =
    let wave = c.args.problem.now in
    let left = c.args.left.now in
    let mid = c.set.new.self in
    let below = c.unit_below-below.result in
    let facts = c.unit_below-below.ensures in
    let others = c.set.ensures.others 0 in
    let here : at_node mid below ≡ at_node left below - 1 =
    (let set = c.set.ensures.here 0 in let get = c.get-units.ensures 0 in omega arith) in
    let unit = c.requires.unit in
    let now = unit.0 in
    let s = unit.1 in
    let e = unit.2 in
    let u = unit.3 in
    let node = c.args.node in
    let less = height_less wave.tree below facts.hangs in
    let same = ap height facts.above in
    let at = c.decreases in
    let over : IsOver wave.tree mid = over_sized wave.tree left mid c.requires.over c.set.ensures.size in (
      omega arith,
      (
        c.requires.children,
        (
          facts.known,
          (
            over,
            (
              next wave left mid node below s now e u facts.above facts.hangs facts.some here others,
              s,
              lower wave left mid node below s now e u facts.above facts.hangs facts.some here others,
              go_on wave left mid node below s now e u facts.above facts.hangs facts.some here others,
            ),
          ),
        ),
      ),
    )

pub returns : goal.returns
returns t c =
    let wave = c.args.problem.now in
    let left = c.args.left.now in
    let mid = c.set.new.self in
    let below = c.unit_below-below.result in
    let facts = c.unit_below-below.ensures in
    let others = c.set.ensures.others 0 in
    let here : at_node mid below ≡ at_node left below - 1 =
    (let set = c.set.ensures.here 0 in let get = c.get-units.ensures 0 in omega arith) in
    let w = c.go_down.result in
    record {
      over = c.go_down.ensures.over;
      worker = c.go_down.ensures.worker;
      fell = λ v. (let one = c.go_down.ensures.fell v in let two = set_falls left mid below here others v in omega arith);
      down = λ state most. subst (λ v. HasComeDown wave.tree state v w) facts.above
          (come_on wave.tree state below w (c.go_down.ensures.down state
          (λ v. (let one = set_falls left mid below here others v in let two = most v in omega arith)))
          (let some = facts.some in let two = most below in omega arith));
      landed = λ now s e u. land_on wave left mid c.args.node below s now e u facts.above facts.hangs facts.some here
          others w c.go_down.new.left
          (c.go_down.ensures.landed
          (next wave left mid c.args.node below s now e u facts.above facts.hangs facts.some here others) s
          (lower wave left mid c.args.node below s now e u facts.above facts.hangs facts.some here others)
          (go_on wave left mid c.args.node below s now e u facts.above facts.hangs facts.some here others));
    }
