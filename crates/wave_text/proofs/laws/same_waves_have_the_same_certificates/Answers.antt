use Rattle.wave_text.proofs.Alike.{same_certifies}
use Rattle.wave_text.proofs.laws.same_waves_have_the_same_certificates.Goals as goal

pub returns : goal.returns
returns c = same_certifies
