use Rattle.std.proofs.Common.{ℕ, suc, ◌≡◌, ◌+◌, sym, ◌∙◌, subst, refl, arith}
use Rattle.std.proofs.lemmas.Bool.{false≢true}
use Rattle.network_prices.proofs.Rows.{row_begin, row_step, row_skip, row_close}
use Rattle.rack_network.specs.Racks.{count, node}
use Rattle.rack_network.specs.Build.{IsBuilt}
use Rattle.rack_network.proofs.Heights.{few_columns, level_in}
use Rattle.rack_network.proofs.Rows.{downs, downs_inside}
use Rattle.rack_network.proofs.network.add_children.Goals as goal
use Rattle.rack_network.proofs.network.add_children.Goals.{then-hangs_from+in_ok-add, else-hangs_from}

pub loop-i-init : goal.loop-i-init
loop-i-init c =
    let wave = c.args.problem.now in
    row_begin (downs wave c.args.level c.args.number c.requires.number) _ _ c.args.network.now (omega arith)
    (λ e want from. (downs_inside wave c.args.level c.args.number c.requires.number e want from).0)
    c.requires.built

pub loop-i-preserved : goal.loop-i-preserved
loop-i-preserved c =
    let i : ℕ = c.loop-i.i in
    let low = (level_in c.args.problem.now c.args.level).0 in
    let row = downs c.args.problem.now c.args.level c.args.number c.requires.number in
    elim c.if-hangs_from.branch [
      | then-hangs_from+in_ok-add w ↦ rw w.network-is
          (row_step row i i _ _ c.loop-i.network w.add.new.network refl (omega arith) (omega arith)
          (c.hangs_from.ensures.0 w.if-hangs_from.true) c.loop-i.invariant w.in_ok-add.ensures)
      | else-hangs_from w ↦ rw w.network-is
          (row_skip row i i _ _ c.loop-i.network refl (omega arith) (omega arith)
          (λ own. false≢true (sym w.if-hangs_from.false ∙ c.hangs_from.ensures.1 own)) c.loop-i.invariant)
    ]

pub returns : goal.returns
returns c =
    let wave = c.args.problem.now in
    let u : ℕ = node wave (suc c.args.level) c.args.number in
    let high = (level_in wave c.args.level).1 in
    let few = few_columns wave c.requires.small in
    let end : c.loop-i.i ≡ count wave c.args.level = omega arith in
    row_close (downs wave c.args.level c.args.number c.requires.number) (u + 1) _ _ c.loop-i.network refl
    (omega arith)
    (λ e want from. (downs_inside wave c.args.level c.args.number c.requires.number e want from).1)
    (subst (λ (i : ℕ). IsBuilt wave u (node wave c.args.level i) c.loop-i.network) end c.loop-i.invariant)
