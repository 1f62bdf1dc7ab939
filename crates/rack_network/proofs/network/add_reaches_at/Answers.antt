use Rattle.std.proofs.Common.{ℕ, ◌≡◌, ◌+◌, sym, ◌∙◌, subst, refl, arith}
use Rattle.std.proofs.lemmas.Bool.{false≢true}
use Rattle.network_prices.proofs.Rows.{row_step, row_skip}
use Rattle.rack_network.specs.Racks.{start}
use Rattle.rack_network.specs.Build.{IsBuilt}
use Rattle.rack_network.proofs.Heights.{level_in}
use Rattle.rack_network.proofs.Rows.{reaches}
use Rattle.rack_network.proofs.network.add_reaches_at.Goals as goal
use Rattle.rack_network.proofs.network.add_reaches_at.Goals.{then-is_held_under+in_ok-add}
use Rattle.rack_network.proofs.network.add_reaches_at.Goals.{else-is_held_under}

pub loop-i-init : goal.loop-i-init
loop-i-init c =
    let wave = c.args.problem.now in
    subst (λ (x : ℕ). IsBuilt wave c.args.split x c.args.network.now)
    (let e : start wave c.args.level ≡ start wave c.args.level + 0 = omega arith in e) c.requires.built

pub loop-i-preserved : goal.loop-i-preserved
loop-i-preserved c =
    let i : ℕ = c.loop-i.i in
    let low = (level_in c.args.problem.now c.args.level).0 in
    let row = reaches c.args.problem.now c.args.split c.args.level c.requires.split c.requires.no_bars in
    elim c.if-is_held_under.branch [
      | then-is_held_under+in_ok-add w ↦ rw w.network-is
          (row_step row i i _ _ c.loop-i.network w.add.new.network refl (omega arith) (omega arith) (record {
            pending = c.requires.pending;
            no_bars = c.requires.no_bars;
            known = omega arith;
            below = c.is_held_under.ensures.0 w.if-is_held_under.true;
          }) c.loop-i.invariant w.in_ok-add.ensures)
      | else-is_held_under w ↦ rw w.network-is
          (row_skip row i i _ _ c.loop-i.network refl (omega arith) (omega arith)
          (λ reach. false≢true (sym w.if-is_held_under.false ∙ c.is_held_under.ensures.1 reach.below))
          c.loop-i.invariant)
    ]
