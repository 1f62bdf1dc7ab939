use Rattle.std.proofs.Common.{List, subst, sym}
use Rattle.line_shapes.specs.Lines.{Statement}
use Rattle.line_rules.specs.Holders.{AreNumbersOf}
use Rattle.line_rules.proofs.Held.{names_apart}
use Rattle.line_rules.proofs.rows.Rows.are_workers_apart.Goals as goal

pub returns : goal.returns
returns c t names h =
    names_apart _ _ _ _ c.self.invariant.1 c.args.numbers.now (c.are_numbers_apart.ensures t) names
    (subst (λ (rows : List Statement). AreNumbersOf rows names c.args.numbers.now) (sym c.self.view_is) h)
