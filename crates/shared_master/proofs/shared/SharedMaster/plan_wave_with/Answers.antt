use Rattle.std.proofs.Common.{subst}
use Rattle.hand_ledger.specs.Hands.{HandValue}
use Rattle.shared_master.specs.Waves.{WavesAs}
use Rattle.shared_master.proofs.Waving.{plans_kept}
use Rattle.shared_master.proofs.shared.SharedMaster.plan_wave_with.Goals as goal

pub returns : goal.returns
returns g c =
    subst (λ (h : HandValue). WavesAs g.L.OfJob.setup h c.plan_wave.result c.plan_wave.new.hand)
    c.loop-turn.invariant (plans_kept _ _ _ c.plan_wave.result _ _ c.plan_wave.ensures.old c.plan_wave.ensures.answer)
