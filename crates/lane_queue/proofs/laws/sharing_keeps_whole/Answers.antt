use Rattle.lane_queue.proofs.Parts.{shared_whole}
use Rattle.lane_queue.proofs.laws.sharing_keeps_whole.Goals as goal

pub returns : goal.returns
returns c = shared_whole
