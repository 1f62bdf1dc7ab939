use Rattle.std.proofs.Common.{◌≡◌, arith}
use Rattle.shuffle_reduce.proofs.index.is_ready.Goals as goal

pub returns-then-parts : goal.returns-then-parts
returns-then-parts c =
    let parts : c.args.one.now.parts ≡ c.args.parts = omega arith in
    ((λ yes. (c.covers.ensures.same.0 yes, parts)), (λ ready. c.covers.ensures.same.1 ready.0))
