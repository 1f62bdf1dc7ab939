use Rattle.shuffle_reduce.specs.Gather.{values_of}
use Rattle.shuffle_reduce.proofs.CoverLemmas.{mutual_then, mutual_else}
use Rattle.shuffle_reduce.proofs.covers.are_mutual.Goals as goal

-- each text is among the others, and the second test says whether each of the others is among the texts
pub returns-then-all_are_among : goal.returns-then-all_are_among
returns-then-all_are_among c =
    mutual_then (values_of c.args.texts.now)
    (values_of c.args.others.now) c.all_are_among-then-all_are_among.result
    (c.all_are_among.ensures.0 c.if-all_are_among.true) c.all_are_among-then-all_are_among.ensures

-- some text is not among the others
pub returns-else-all_are_among : goal.returns-else-all_are_among
returns-else-all_are_among c =
    mutual_else (values_of c.args.texts.now)
    (values_of c.args.others.now) c.all_are_among.result c.if-all_are_among.false c.all_are_among.ensures
