use Rattle.master_state.proofs.Headline.{headline}
use Rattle.master_state.proofs.laws.headline.Goals as goal

pub returns : goal.returns
returns c = headline
