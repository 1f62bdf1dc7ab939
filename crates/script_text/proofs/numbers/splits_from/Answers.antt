use Rattle.std.proofs.Common.{arith}
use Rattle.std.proofs.lemmas.Grind.{common_steps}
use Rattle.std.proofs.lemmas.List.{length-map}
use Rattle.script_text.proofs.numbers.splits_from.Goals as goal

pub split_at-requires-clause-known : goal.split_at-requires-clause-known
split_at-requires-clause-known c =
    c.requires.known c.loop-place.place (omega (arith, c.loop-place.invariant.0))
    (omega (arith, c.loop-place-test.true, length-map c.args.words.now (λ w. w.now)))

pub returns : goal.returns
returns c = grind (arith, common_steps)
