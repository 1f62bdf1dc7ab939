use Rattle.lane_queue.proofs.Keeps.{forks}
use Rattle.lane_queue.proofs.lane.Lane.share.Goals as goal

pub another-token-requires-clause-rule : goal.another-token-requires-clause-rule
another-token-requires-clause-rule c = forks _ _
