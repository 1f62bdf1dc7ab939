use Rattle.std.proofs.Common.{refl}
use Rattle.text_tests.proofs.indexes.finish_ready.Goals as goal

-- the results are of the texts, and of two parts
pub finish-requires-clause-covers : goal.finish-requires-clause-covers
finish-requires-clause-covers c = (c.if-not-are_ready.ensures.0 refl).covers

pub finish-requires-clause-same : goal.finish-requires-clause-same
finish-requires-clause-same c = (c.if-not-are_ready.ensures.0 refl).same
