use Rattle.std.proofs.Common.{◌≡◌, ◌≤◌, ◌∙◌, ap, sym, length, arith}
use Rattle.block_map.specs.Copies.{holdings, may_hold, replicas_beside}
use Rattle.block_map.specs.Holdings.{holders_of}
use Rattle.block_map.proofs.Copying.{target_fewer, target_not_fewer, target_skip}
use Rattle.block_map.proofs.Room.{some_target}
use Rattle.block_map.proofs.copies.target_of.Goals as goal
use Rattle.block_map.proofs.copies.target_of.Goals.{then-beside-fewest+then-may_hold, else-beside-fewest}
use Rattle.block_map.proofs.copies.target_of.Goals.{else-beside-fewest-via-then-beside-fewest+else-may_hold}
use Rattle.block_map.proofs.copies.target_of.Goals.{else-beside-fewest-via-else-beside-fewest}

pub loop-i-preserved : goal.loop-i-preserved
loop-i-preserved c =
    let h = holdings c.args.table.now c.args.tree.now c.args.blocks.now 0 in
    let s = c.args.split in
    let i = c.loop-i.i in
    let n = c.loop-i.fewest in
    let best = c.loop-i.best in
    let below = c.loop-i.invariant.target in
    let most = c.loop-i.invariant.fewest in
    let beside : c.replicas_in-beside.result ≡ replicas_beside h s i =
    rw (c.rack_of.ensures.rack, c.new-worker.ensures, c.holders-holders.ensures.value)
    at c.replicas_in-beside.ensures.count in
    let few : replicas_beside h s i ≤ length (holders_of c.args.blocks.now s) =
    rw (beside, c.holders-holders.ensures.value) at c.replicas_in-beside.ensures.most in
    let may = ap (may_hold h s) (sym c.new-worker.ensures) in
    elim c.if-beside-fewest.branch [
      | then-beside-fewest+then-may_hold w ↦
          let on = may ∙ sym (w.may_hold.ensures c.args.tree.now) ∙ w.if-may_hold.true in
          rw (w.best-is, w.fewest-is, c.new-worker.ensures) (record {
            target = target_fewer h s i n best on below most (omega (arith, beside, w.if-beside-fewest.true));
            fewest = beside;
          })
      | else-beside-fewest w ↦ rw (w.best-is, w.fewest-is) (elim w.else-beside-fewest.branch [
        | else-beside-fewest-via-then-beside-fewest+else-may_hold v ↦
            let off = may ∙ sym (v.may_hold.ensures c.args.tree.now) ∙ v.if-may_hold.false in
            record { target = target_skip h s i best off below; fewest = most }
        | else-beside-fewest-via-else-beside-fewest v ↦
            let many : n ≤ replicas_beside h s i = omega (arith, beside, v.if-beside-fewest.false) in
            record { target = target_not_fewer h s i n best below most many few; fewest = most }
      ])
    ]

pub unwrap-requires : goal.unwrap-requires
unwrap-requires c =
    let h = holdings c.args.table.now c.args.tree.now c.args.blocks.now 0 in
    let all : c.loop-i.i ≡ length c.args.table.now.each = omega (
      arith,
      c.workers-i-end.ensures.count,
      c.requires.racks,
      c.loop-i-test.false,
      c.loop-i.auto.i-end,
    ) in
    some_target h c.args.split c.loop-i.i c.loop-i.best all c.requires.few c.loop-i.invariant.target
