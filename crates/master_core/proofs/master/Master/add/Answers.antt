use Rattle.std.proofs.Common.{◌∙◌, refl, sym, arith}
use Rattle.std.proofs.lemmas.Grind.{common_steps}
use Rattle.master_state.specs.Refusals.{Add}
use Rattle.master_core.proofs.Accepting.{follows, master_of}
use Rattle.master_core.proofs.master.Master.add.Goals as goal

pub invariant_of-self : goal.invariant_of-self
invariant_of-self c =
    master_of (follows (Add c.args.split c.args.worker) c.self.invariant c.self.view_is (
      c.requires.split,
      c.requires.worker,
    ) (sym c.why_not_add.ensures ∙ c.in_default.is) (rw c.record_event.ensures.capacity refl)
    c.record_event.ensures.items c.record_event.ensures.place (rw c.add_holder.ensures refl) refl
    c.self.invariant.made (c.turn_far.ensures.near _ _ _, c.turn_far.ensures.flagged _ _, c.turn_far.ensures.lined _ _))

pub returns : goal.returns
returns c = grind (arith, common_steps)
