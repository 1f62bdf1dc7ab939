use Rattle.std.proofs.Common.{ℕ, ◌≡◌, ◌+◌, subst, arith}
use Rattle.network_prices.proofs.Rows.{row_begin}
use Rattle.rack_network.specs.Racks.{start, unstarted_node, HasBars}
use Rattle.rack_network.specs.Build.{IsBuilt}
use Rattle.rack_network.proofs.Heights.{few_columns}
use Rattle.rack_network.proofs.Rows.{inside, reaches, wait_step}
use Rattle.std.proofs.lemmas.Bool.{false≢true}
use Rattle.std.proofs.Common.{sym, ◌∙◌}
use Rattle.rack_network.proofs.network.add_split.Goals as goal
use Rattle.rack_network.proofs.network.add_split.Goals.{then-has_bars+in_ok-add_pairs}
use Rattle.rack_network.proofs.network.add_split.Goals.{else-has_bars+in_ok-add_reaches}

pub add_reaches-requires-clause-built : goal.add_reaches-requires-clause-built
add_reaches-requires-clause-built c =
    let wave = c.args.problem.now in
    let no_bars : HasBars wave c.args.split → ⊥ =
    λ bars. false≢true (sym c.if-has_bars.false ∙ c.has_bars.ensures.1 bars) in
    subst (λ (x : ℕ). IsBuilt wave c.args.split x c.args.network.now)
    (let e : start wave 3 + 0 ≡ start wave 3 = omega arith in e)
    (row_begin (reaches wave c.args.split 3 c.requires.split no_bars) _ _ c.args.network.now (omega arith)
    (λ e want from. (inside wave e want).1) c.requires.built)

pub returns : goal.returns
returns c =
    let wave = c.args.problem.now in
    let ways : IsBuilt wave c.args.split (unstarted_node wave) c.if-has_bars.network =
    elim c.if-has_bars.branch [
      | then-has_bars+in_ok-add_pairs w ↦ rw w.network-is w.in_ok-add_pairs.ensures
      | else-has_bars+in_ok-add_reaches w ↦ rw w.network-is w.in_ok-add_reaches.ensures
    ] in
    let few = few_columns wave c.requires.small in
    wait_step wave c.args.split _ _ c.if-has_bars.network c.add.new.network (omega arith) c.requires.split
    c.requires.pending ways c.in_ok-add.ensures
