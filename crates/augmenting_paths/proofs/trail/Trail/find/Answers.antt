use Rattle.std.proofs.Common.{◌-◌, length, arith}
use Rattle.flow_network.specs.declared.arcs.ArcNo.TheVariants.{Forward}
use Rattle.augmenting_paths.proofs.trail.Trail.find.Goals as goal
use Rattle.augmenting_paths.proofs.trail.Trail.find.Goals.{then-left-matched, else-left-matched}

pub is_open-requires-clause-listed : goal.is_open-requires-clause-listed
is_open-requires-clause-listed g c =
    let few = c.loop-left.invariant in
    let some = c.loop-left-test.true in
    let left = c.loop-left.left - 1 in
    elim c.if-left-matched.branch [
      | then-left-matched w ↦ rw w.arc-is (c.requires.matched left w.if-left-matched.true).listed
      | else-left-matched w ↦ rw w.arc-is (c.requires.inner (left - length c.args.matched.now) (Forward 0)
          (let past = w.if-left-matched.false in omega arith)).listed
    ]

pub returns-then-is_open : goal.returns-then-is_open
returns-then-is_open g c =
    let few = c.loop-left.invariant in
    let some = c.loop-left-test.true in
    let left = c.loop-left.left - 1 in
    record {
      open_arc = c.is_open.ensures c.if-is_open.true;
      from = elim c.if-left-matched.branch [
        | then-left-matched w ↦ rw w.arc-is (c.requires.matched left w.if-left-matched.true).from
        | else-left-matched w ↦ rw w.arc-is (c.requires.inner (left - length c.args.matched.now) (Forward 0)
            (let past = w.if-left-matched.false in omega arith)).from
      ];
    }
