use Rattle.std.proofs.Common.{◌∙◌, refl, sym, arith}
use Rattle.std.proofs.lemmas.Grind.{common_steps}
use Rattle.master_state.specs.Refusals.{Join}
use Rattle.master_core.proofs.Accepting.{follows, master_of}
use Rattle.master_core.proofs.master.Master.join.Goals as goal

pub invariant_of-self : goal.invariant_of-self
invariant_of-self c =
    master_of (follows (Join c.args.worker c.args.set) c.self.invariant c.self.view_is c.requires
    (sym c.why_not_join.ensures ∙ c.in_default.is) (rw c.record_join.ensures.capacity refl)
    c.record_join.ensures.items c.record_join.ensures.place
    (rw (c.join.ensures, c.add_to_all.ensures, c.of.ensures) refl)
    refl c.self.invariant.made (c.turn_far.ensures.near _ _ _, c.turn_far.ensures.flagged _ _, c.turn_far.ensures.lined _ _))

pub join-requires : goal.join-requires
join-requires c = grind (arith, common_steps)

pub returns : goal.returns
returns c = grind (arith, common_steps)
