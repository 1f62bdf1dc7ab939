use Rattle.live_master.proofs.NoCommands.{no_command}
use Rattle.live_master.proofs.requests.requests_are_no_commands.Goals as goal

pub returns : goal.returns
returns c = no_command
