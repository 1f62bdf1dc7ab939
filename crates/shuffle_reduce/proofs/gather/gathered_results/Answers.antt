use Rattle.std.proofs.Common.{refl, subst, sym}
use Rattle.std.specs.Prelude.{Contains}
use Rattle.shuffle_reduce.proofs.MergeLemmas.{gathers_one_more_result}
use Rattle.shuffle_reduce.proofs.gather.gathered_results.Goals as goal

-- the pairs of one more result are added
pub loop-part-preserved : goal.loop-part-preserved
loop-part-preserved c =
    let added = rw c.entries.ensures.value at c.in_ok-add.ensures.added in
    gathers_one_more_result c.args.results.now c.loop-part.part-index c.loop-part-test.true c.part-item.is
    c.loop-part.invariant c.entries.ensures.exact added.exact

-- the result that wants memory has a pair, which its texts have
pub returns-in_err-add-clause-memory : goal.returns-in_err-add-clause-memory
returns-in_err-add-clause-memory c err =
    let some = c.in_err-add.ensures.memory refl in
    let there = subst (λ pairs. Contains pairs some.0) c.entries.ensures.value some.1 in (
      c.loop-part.part-index,
      c.part-item.result,
      c.loop-part-test.true,
      sym c.part-item.is,
      (some.0, ((c.entries.ensures.exact.exact some.0).0 there).0),
    )
