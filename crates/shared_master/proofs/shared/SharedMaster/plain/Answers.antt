use Rattle.std.proofs.Common.{subst, sym}
use Rattle.shared_master.specs.declared.sizes.Sizes.{Sizes}
use Rattle.shared_master.specs.Steps.{IsKnownTo, call_of}
use Rattle.shared_master.proofs.Stepping.{kept_plain, known}
use Rattle.shared_master.proofs.shared.SharedMaster.plain.Goals as goal

pub step-requires : goal.step-requires
step-requires g c =
    known c.self.invariant c.args.call.now
    (subst (λ (z : Sizes). IsKnownTo z (call_of c.args.call.now)) (sym c.self.view_is) c.requires)

pub returns-clause-kept : goal.returns-clause-kept
returns-clause-kept g c = kept_plain c.args.call.now c.step.ensures.step
