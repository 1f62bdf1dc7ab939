use Rattle.std.proofs.Common.{ℕ, get_or, arith}
use Rattle.tree_planner.specs.Bars.{HasEndFor, IsLevelEnd}
use Rattle.tree_planner.proofs.Tops.{ends_of_all, from_below}
use Rattle.tree_planner.proofs.split_ends.groups_with.Goals as goal

pub loop-k-preserved : goal.loop-k-preserved
loop-k-preserved c = λ e.
    (let wave = c.args.problem.now in
    let holders = c.holders-holders.result.now in
    from_below (λ (k : ℕ). IsLevelEnd wave c.args.split (get_or holders k 0) e) c.loop-k.k (c.in_ok-add_holder.ensures e)
    (c.loop-k.invariant e))

pub add_holder-requires-clause-before : goal.add_holder-requires-clause-before
add_holder-requires-clause-before c = λ j e l end. (c.loop-k.invariant e).1 (j, l, end)

pub returns : goal.returns
returns c = λ e.
    (let past = c.loop-k-test.false in
    let within = c.loop-k.auto.k-end in
    ends_of_all c.args.problem.now c.args.split e (HasEndFor c.args.problem.now c.args.split c.loop-k.groups.items e)
    c.holders-holders.result.now c.loop-k.k c.requires.pending c.holders-holders.ensures.holders
    (omega arith) (c.loop-k.invariant e))
