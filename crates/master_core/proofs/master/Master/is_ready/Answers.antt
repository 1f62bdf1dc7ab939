use Rattle.std.proofs.Common.{◌∙◌, refl, sym, ap, subst, length, arith}
use Rattle.std.specs.Prelude.{◌↔◌, IsTrue}
use Rattle.std.proofs.lemmas.Grind.{common_steps}
use Rattle.std.proofs.lemmas.List.{length-map}
use Rattle.master_state.specs.Steps.{problem_of}
use Rattle.master_state.specs.Jobs.{Job, IsReady}
use Rattle.master_tables.specs.Entries.{shown_as}
use Rattle.master_core.specs.Inside.{setup_of, state_of}
use Rattle.master_core.proofs.master.Master.is_ready.Goals as goal

pub returns : goal.returns
returns c =
    let m = c.self.inside in
    let many = ap length c.deref.ensures.value ∙ sym (length-map m.splits.items shown_as)
    ∙ c.self.invariant.kept.tidy.splits in
    subst (λ (i : Job). IsTrue c.may_any_start.result ↔ IsReady i) c.self.view_is
    (c.may_any_start.ensures (problem_of (setup_of m) (state_of m)) m.cluster.splits many refl refl
    (rw c.deref.ensures.value refl))

pub may_any_start-requires-clause-known : goal.may_any_start-requires-clause-known
may_any_start-requires-clause-known c = grind (arith, common_steps)
