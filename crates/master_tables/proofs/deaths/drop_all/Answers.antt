use Rattle.std.proofs.Common.{◌≡◌, ℕ, suc, ◌+◌, List, ap, ◌∙◌, arith}
use Rattle.node_ids.specs.Updates.{updated}
use Rattle.master_tables.specs.Ends.{without_all}
use Rattle.master_tables.proofs.Together.{front_changed, front_changed-more, front_changed-all}
use Rattle.master_tables.proofs.Together.{length-front_changed}
use Rattle.master_tables.proofs.deaths.drop_all.Goals as goal

pub drop_from-requires : goal.drop_from-requires
drop_from-requires c =
    rw c.loop-i.invariant
    (omega (
      arith,
      c.loop-i-test.true,
      c.new.ensures,
      c.splits-i-end.ensures.count,
      length-front_changed (without_all c.args.dead.now) c.loop-i.i c.args.holders.now,
    ))

pub loop-i-preserved : goal.loop-i-preserved
loop-i-preserved c =
    let change = without_all c.args.dead.now in
    let more : suc c.loop-i.i ≡ c.loop-i.i + 1 = omega arith in
    c.drop_from.ensures ∙ ap (λ (k : ℕ). updated change c.loop-i.holders k) c.new.ensures
    ∙ ap (λ (lists : List (List ℕ)). updated change lists c.loop-i.i) c.loop-i.invariant
    ∙ front_changed-more change c.loop-i.i c.args.holders.now
    ∙ ap (λ (k : ℕ). front_changed change k c.args.holders.now) more

pub returns : goal.returns
returns c =
    c.loop-i.invariant
    ∙ front_changed-all (without_all c.args.dead.now) c.loop-i.i c.args.holders.now
    (omega (arith, c.loop-i-test.false, c.splits-i-end.ensures.count))
