use Rattle.lane_queue.proofs.Keeps.{begins}
use Rattle.lane_queue.proofs.lane.Lane.new.Goals as goal

pub ruled-requires-clause-rule : goal.ruled-requires-clause-rule
ruled-requires-clause-rule c = begins
