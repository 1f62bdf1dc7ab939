use borrow.Author.Count.{below_more}
use Rattle.augmenting_paths.specs.Shipping.{IsSource}
use Rattle.augmenting_paths.proofs.requirements.are_starts.Goals as goal

pub loop-k-preserved : goal.loop-k-preserved
loop-k-preserved c =
    below_more (λ i. IsSource c.args.arcs.now c.args.sources.now c.args.sink i) _ c.loop-k.invariant
    (c.is_start.ensures.0 c.if-not-is_start.false)
