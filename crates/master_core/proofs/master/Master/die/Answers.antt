use Rattle.std.proofs.Common.{◌∙◌, refl, sym, arith}
use Rattle.std.proofs.lemmas.Grind.{common_steps}
use Rattle.master_state.specs.Refusals.{Die}
use Rattle.master_core.specs.Inside.{setup_of, state_of}
use Rattle.master_core.proofs.Accepting.{follows, master_of}
use Rattle.master_core.proofs.master.Master.die.Goals as goal

pub invariant_of-self : goal.invariant_of-self
invariant_of-self c =
    master_of (follows (Die c.args.worker) c.self.invariant c.self.view_is c.requires
    (sym c.why_not_die.ensures ∙ c.in_default.is) (rw c.record_event.ensures.capacity refl)
    c.record_event.ensures.items c.record_event.ensures.place (c.bury.ensures.died (state_of c.self.inside)
    refl refl refl refl) refl (c.bury.ensures.made (setup_of c.self.inside) c.self.invariant.made)
    (c.turn_far.ensures.near _ _ _, c.turn_far.ensures.flagged _ _, c.turn_far.ensures.lined _ _))

pub bury-requires : goal.bury-requires
bury-requires c = grind (arith, common_steps)

pub returns : goal.returns
returns c = grind (arith, common_steps)
