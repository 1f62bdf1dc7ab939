use Rattle.std.proofs.Common.{below_more, ℕ, sym, ◌∙◌, subst}
use Rattle.std.proofs.lemmas.Bool.{false≢true}
use Rattle.master_tables.specs.Lines.{Takes}
use Rattle.master_tables.proofs.lines.any_takes.Goals as goal

pub loop-w-preserved : goal.loop-w-preserved
loop-w-preserved c = below_more _ _ c.loop-w.invariant (λ from here.
    false≢true (sym c.if-takes.false ∙ c.takes.ensures.1
    (subst (λ (k : ℕ). Takes c.args.table.now c.args.split k) (sym c.new-worker.ensures) here)))
