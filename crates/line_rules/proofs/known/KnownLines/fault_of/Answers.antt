use Rattle.std.proofs.Common.{◌∙◌, subst, sym, true≢false, arith}
use Rattle.line_shapes.specs.Lines.{statement_of}
use Rattle.line_rules.specs.Entered.{IsSoundBefore}
use Rattle.line_rules.specs.Faults.{Keep}
use Rattle.line_rules.specs.Known.{Known}
use Rattle.line_rules.specs.Names.{IsNamed}
use Rattle.line_rules.specs.declared.rule.Rule.TheVariants.{Declared}
use Rattle.line_rules.proofs.Least.{least_out_of_range, least_repeated, least_unknown}
use Rattle.line_rules.proofs.Sound.{fit_keeps, fit_named}
use Rattle.line_rules.proofs.known.KnownLines.fault_of.Goals as goal

pub is_named-requires : goal.is_named-requires
is_named-requires c fit =
    let line = statement_of c.args.line.now in
    let sound = subst (λ (k : Known). IsSoundBefore k.version k.section k.rows) c.self.view_is c.self.invariant.0 in
    subst (λ (k : Known). IsNamed k.version line) (sym c.self.view_is)
    (fit_named _ _ line sound.sound (c.requires.fit fit))

pub keeps-requires : goal.keeps-requires
keeps-requires c fit =
    let line = statement_of c.args.line.now in
    subst (λ (k : Known). Keep Declared k.rows line) (sym c.self.view_is)
    (fit_keeps Declared _ _ line (c.requires.fit fit))

pub returns-then-not-keeps : goal.returns-then-not-keeps
returns-then-not-keeps c = grind (arith, least_unknown)

pub returns-then-not-is_in_range : goal.returns-then-not-is_in_range
returns-then-not-is_in_range c = grind (arith, least_out_of_range)

pub returns-then-not-is_new : goal.returns-then-not-is_new
returns-then-not-is_new c =
    let line = statement_of c.args.line.now in
    least_repeated _ line (c.is_whole.ensures.0 c.if-not-is_whole.false)
    (c.may_stand.ensures.0 c.if-not-may_stand.false)
    (subst (λ (k : Known). IsNamed k.version line) c.self.view_is (c.is_named.ensures.0 c.if-not-is_named.false))
    (subst (λ (k : Known). Keep Declared k.rows line) c.self.view_is (c.keeps.ensures.0 c.if-not-keeps.false))
    (λ h. true≢false (sym (c.is_new.ensures.1 h) ∙ c.if-not-is_new.true))
