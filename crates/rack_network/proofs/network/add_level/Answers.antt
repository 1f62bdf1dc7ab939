use Rattle.std.proofs.Common.{ℕ, suc, ◌≡◌, ◌+◌, ◌<◌, ap, subst, arith}
use Rattle.rack_network.specs.Racks.{count, node, start}
use Rattle.rack_network.specs.Build.{IsBuilt}
use Rattle.rack_network.proofs.Heights.{next_level}
use Rattle.rack_network.proofs.network.add_level.Goals as goal

pub loop-i-init : goal.loop-i-init
loop-i-init c =
    let wave = c.args.problem.now in
    subst (λ (u : ℕ). IsBuilt wave u 0 c.args.network.now)
    (let e : start wave (suc c.args.level) ≡ node wave (suc c.args.level) 0 = omega arith in e)
    c.requires.built

pub add_children-requires-clause-number : goal.add_children-requires-clause-number
add_children-requires-clause-number c =
    let wave = c.args.problem.now in
    subst (λ (l : ℕ). c.loop-i.i < count wave l)
    (let e : c.args.level + 1 ≡ suc c.args.level = omega arith in e) (omega arith)

pub loop-i-preserved : goal.loop-i-preserved
loop-i-preserved c =
    let wave = c.args.problem.now in
    let level : ℕ = suc c.args.level in
    subst (λ (u : ℕ). IsBuilt wave u 0 c.add_children.new.network)
    (let e : node wave level c.loop-i.i + 1 ≡ node wave level (c.loop-i.i + 1) = omega arith in e)
    c.in_ok-add_children.ensures

pub returns : goal.returns
returns c =
    let wave = c.args.problem.now in
    let up = ap (count wave) (let e : c.args.level + 1 ≡ suc c.args.level = omega arith in e) in
    let next = next_level wave c.args.level c.requires.level in
    subst (λ (u : ℕ). IsBuilt wave u 0 c.loop-i.network)
    (let e : node wave (suc c.args.level) c.loop-i.i ≡ start wave c.args.level = omega arith in e)
    c.loop-i.invariant
