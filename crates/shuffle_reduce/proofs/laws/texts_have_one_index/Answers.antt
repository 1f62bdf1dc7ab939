use Rattle.shuffle_reduce.proofs.OneIndex.{have_one_index}
use Rattle.shuffle_reduce.proofs.laws.texts_have_one_index.Goals as goal

pub returns : goal.returns
returns c = have_one_index
