use Rattle.std.proofs.Common.{◌≡◌, ◌∙◌, ◌&&◌, ap, arith, cond, length, ltb, min, sym, ℕ}
use Rattle.block_map.specs.Holdings.{holders_of}
use Rattle.block_map.specs.Copies.{holdings, live_count}
use Rattle.block_map.proofs.Computed.{copies_more}
use Rattle.block_map.proofs.copies.copy_count.Goals as goal
use Rattle.block_map.proofs.copies.copy_count.Goals.{then-is_between, else-is_between}

pub loop-i-preserved : goal.loop-i-preserved
loop-i-preserved c =
    let blocks = c.args.blocks.now in
    let limit : c.min-limit.result ≡ min c.args.target (live_count c.args.table.now) =
    c.min-limit.ensures ∙ ap (λ (n : ℕ). min c.args.target n) c.live_count.ensures in
    let test : c.is_between.result ≡ (ltb 0 (length (holders_of blocks c.loop-i.i))
    && ltb (length (holders_of blocks c.loop-i.i)) (min c.args.target (live_count c.args.table.now))) =
    c.is_between.ensures
    ∙ (λ k. ltb 0 (length (holders_of blocks (c.new.ensures k)))
    && ltb (length (holders_of blocks (c.new.ensures k))) (limit k)) in
    elim c.if-is_between.branch [
      | then-is_between w ↦ record {
        counted = λ tree.
            let h = holdings c.args.table.now tree blocks c.args.target in
            let yes = sym test ∙ w.if-is_between.true in
            omega (
              arith,
              w.count-is,
              c.loop-i.invariant.counted tree,
              copies_more h c.loop-i.i,
              ap (λ b. cond {A = ℕ} b 1 0) yes,
            );
        few = omega (arith, w.count-is, c.loop-i.invariant.few);
      }
      | else-is_between w ↦ record {
        counted = λ tree.
            let h = holdings c.args.table.now tree blocks c.args.target in
            let no = sym test ∙ w.if-is_between.false in
            omega (
              arith,
              w.count-is,
              c.loop-i.invariant.counted tree,
              copies_more h c.loop-i.i,
              ap (λ b. cond {A = ℕ} b 1 0) no,
            );
        few = omega (arith, w.count-is, c.loop-i.invariant.few);
      }
    ]
