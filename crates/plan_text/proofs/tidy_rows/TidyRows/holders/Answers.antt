use Rattle.std.proofs.Common.{List, ◌≡◌, arith, subst}
use Rattle.line_shapes.specs.Lines.{Statement}
use Rattle.line_shapes.specs.declared.keyword.Keyword.TheVariants.{Split, Worker}
use Rattle.line_rules.specs.Known.{rows_of}
use Rattle.plan_text.specs.Names.{names_of}
use Rattle.plan_text.specs.Value.{holders_of}
use Rattle.plan_text.proofs.Named.{holders_numbered}
use Rattle.plan_text.proofs.tidy_rows.TidyRows.holders.Goals as goal

pub returns-clause-value : goal.returns-clause-value
returns-clause-value c =
    let numbers = c.self.inside.holders.now in
    subst (λ (rows : List Statement). numbers ≡ holders_of (names_of Worker rows) (rows_of Split rows))
    c.self.view_is
    (holders_numbered c.self.inside.rows.now c.self.invariant.0.differ numbers c.self.invariant.1)

pub returns-clause-within : goal.returns-clause-within
returns-clause-within c i d lt =
    omega (arith, c.self.invariant.1.within i d lt, c.self.invariant.0.few_workers)
