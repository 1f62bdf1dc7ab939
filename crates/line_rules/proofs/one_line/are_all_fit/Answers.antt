use Rattle.std.proofs.Common.{List, subst, sym}
use Rattle.line_shapes.specs.Lines.{Statement, stated}
use Rattle.line_shapes.specs.declared.keyword.Keyword.{Keyword}
use Rattle.line_shapes.specs.declared.keyword.Keyword.TheVariants.{Split}
use Rattle.line_rules.specs.Entered.{AreFit}
use Rattle.line_rules.specs.Holders.{IsHeld}
use Rattle.line_rules.proofs.one_line.are_all_fit.Goals as goal

pub returns-else-is_some : goal.returns-else-is_some
returns-else-is_some c t =
    let known = c.args.known.now in
    let said = stated c.args.keyword c.args.words.now in
    subst (λ v. AreFit v known.rows said) c.version-else-is_some.ensures
    (subst (λ (rows : List Statement). AreFit c.version-else-is_some.result rows said) c.rows-else-is_some.ensures
    (c.are_fit.ensures t))

pub returns-in-Split : goal.returns-in-Split
returns-in-Split c t =
    let known = c.args.known.now in
    let words = c.args.words.now in
    let held : IsHeld known.rows (stated Split words) =
    subst (λ (k : Keyword). IsHeld known.rows (stated k words)) c.in-Split.is (c.requires.held c.if-held.true) in
    let fit = c.is_fit_before_holders.ensures t
    (subst (λ (rows : List Statement). IsHeld rows (stated Split words)) (sym c.rows.ensures) held) in
    subst (λ (k : Keyword). AreFit known.version known.rows (stated k words)) (sym c.in-Split.is)
    (subst (λ v. AreFit v known.rows (stated Split words)) c.version.ensures
    (subst (λ (rows : List Statement). AreFit c.version.result rows (stated Split words)) c.rows.ensures fit))
