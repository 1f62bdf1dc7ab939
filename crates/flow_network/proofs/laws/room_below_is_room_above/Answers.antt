use Rattle.flow_network.proofs.Room.{room_above}
use Rattle.flow_network.proofs.laws.room_below_is_room_above.Goals as goal

pub returns : goal.returns
returns c = room_above
