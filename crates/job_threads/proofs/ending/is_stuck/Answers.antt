use Rattle.std.proofs.Common.{rules, arith, ◌∙◌, ◌<◌, ◌==◌, ℕ, refl, sym, ap}
use Rattle.std.proofs.lemmas.Bool.{false≢true, ne_eqb}
use Rattle.master_core.proofs.AllParts.{none_open, not_false}
use Rattle.job_threads.proofs.ending.is_stuck.Goals as goal

pub returns : goal.returns
returns c = λ is_open. (
    let glance = c.glance-glance.ensures in
    let parts = c.args.master.now.state.parts in
    let some : 0 < c.glance-glance.result.open_parts = search rules in
    record {
      setup = refl;
      legal = c.is_kept.ensures.legal;
      idle = sym glance.running ∙ (search rules);
      unready = λ ready. false≢true (sym c.if-glance.false ∙ glance.ready.1 ready);
      irreducible = not_false _ (sym glance.reducible ∙ c.if-glance-2.false);
      undone = sym (none_open parts) ∙ ap (λ (n : ℕ). n == 0) (sym glance.open_parts)
          ∙ ne_eqb c.glance-glance.result.open_parts 0 (λ none. omega (arith, some, none));
    })
