use Rattle.std.proofs.Common.{◌∙◌, ◌++◌, List, ℕ, map, subst, sym}
use Rattle.std.specs.Prelude.{IsPermutation}
use Rattle.std.proofs.lemmas.List.{length-map}
use Rattle.master_state.specs.Steps.{worker_line}
use Rattle.master_core.proofs.Fitting.{all_fit}
use Rattle.master_core.proofs.kept_plan.fit_workers.Goals as goal

pub returns-clause-fit : goal.returns-clause-fit
returns-clause-fit c =
    let lines = map worker_line c.args.workers.now in
    all_fit c.args.engine.now.wave c.fit_each.new.engine.wave c.args.touched.now c.args.started.now
    c.deref-2.result.now lines c.if-touched.false c.requires.lined
    (length-map c.args.workers.now worker_line ∙ c.requires.workers)
    (subst (λ (listed : List ℕ). IsPermutation (c.args.touched.now.workers.items ++ c.args.started.now) listed)
    (sym c.deref-2.ensures.value)
    (subst (λ (touched : List ℕ). IsPermutation (touched ++ c.args.started.now) c.in_ok-listed.listed.items)
    c.deref.ensures.value c.in_ok-listed.ensures))
    c.fit_each.result c.fit_each.ensures.only c.fit_each.ensures.fit
