use Rattle.std.proofs.Common.{sym, ◌∙◌, arith}
use Rattle.std.proofs.lemmas.Bool.{false≢true}
use Rattle.network_prices.proofs.Rows.{row_begin, row_step, row_skip}
use Rattle.rack_network.proofs.Rows.{pairs, pairs_past}
use Rattle.rack_network.proofs.network.add_pairs.Goals as goal
use Rattle.rack_network.proofs.network.add_pairs.Goals.{then-admissible+in_ok-add, else-admissible}

pub loop-i-init : goal.loop-i-init
loop-i-init c =
    row_begin (pairs c.args.problem.now c.args.split c.requires.split c.requires.bars) _ _ c.args.network.now
    (omega arith) (pairs_past c.args.problem.now c.args.split c.requires.split c.requires.bars)
    c.requires.built

pub loop-i-preserved : goal.loop-i-preserved
loop-i-preserved c =
    let row = pairs c.args.problem.now c.args.split c.requires.split c.requires.bars in
    elim c.if-admissible.branch [
      | then-admissible+in_ok-add w ↦ rw w.network-is
          (row_step row c.loop-i.i c.new-worker.result _ _ c.loop-i.network w.add.new.network (omega arith)
          (omega arith) (omega arith) (c.admissible.ensures.0 w.if-admissible.true) c.loop-i.invariant
          w.in_ok-add.ensures)
      | else-admissible w ↦ rw w.network-is
          (row_skip row c.loop-i.i c.new-worker.result _ _ c.loop-i.network (omega arith) (omega arith)
          (omega arith) (λ may. false≢true (sym w.if-admissible.false ∙ c.admissible.ensures.1 may))
          c.loop-i.invariant)
    ]
