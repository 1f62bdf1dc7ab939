use Rattle.live_master.proofs.Transcript.{transcript}
use Rattle.live_master.proofs.serving.sessions_are_scripts.Goals as goal

pub returns : goal.returns
returns c = transcript
