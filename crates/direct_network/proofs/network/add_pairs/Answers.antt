use Rattle.std.proofs.Common.{ℕ, ◌+◌, ◌*◌, sym, ◌∙◌, arith}
use Rattle.std.proofs.lemmas.Bool.{false≢true}
use Rattle.network_prices.proofs.Rows.{row_step, row_skip}
use Rattle.direct_network.proofs.Rows.{pairs}
use Rattle.direct_network.proofs.network.add_pairs.Goals as goal
use Rattle.direct_network.proofs.network.add_pairs.Goals.{then-may_start+in_ok-add, else-may_start}

pub loop-i-preserved : goal.loop-i-preserved
loop-i-preserved c =
    let s : ℕ = c.args.split in
    let limit : ℕ = 257 * s + c.loop-i.i in
    let next : ℕ = 257 * s + (c.loop-i.i + 1) in
    let row = pairs c.args.problem.now s c.requires.split in
    elim c.if-may_start.branch [
      | then-may_start+in_ok-add w ↦ rw w.network-is
          (row_step row c.loop-i.i c.new-worker.result limit next c.loop-i.network w.add.new.network
          (omega arith) (omega arith) (omega arith)
          (c.may_start.ensures.0 w.if-may_start.true)
          c.loop-i.invariant w.in_ok-add.ensures)
      | else-may_start w ↦ rw w.network-is
          (row_skip row c.loop-i.i c.new-worker.result limit next c.loop-i.network
          (omega arith) (omega arith) (omega arith)
          (λ is. false≢true (sym w.if-may_start.false ∙ c.may_start.ensures.1 is))
          c.loop-i.invariant)
    ]
