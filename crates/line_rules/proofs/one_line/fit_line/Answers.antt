use Rattle.std.proofs.Common.{List, Bor, ℕ, subst, sym}
use Rattle.line_shapes.specs.Lines.{stated}
use Rattle.line_rules.specs.Reading.{IsFitLine}
use Rattle.line_rules.proofs.LineErrors.{cut_fit, has_keyword}
use Rattle.line_rules.proofs.one_line.fit_line.Goals as goal

pub returns-in_err-fit_after-clause-memory : goal.returns-in_err-fit_after-clause-memory
returns-in_err-fit_after-clause-memory c memory =
    let cut = c.in_ok-keyword.ensures.ok in
    has_keyword _ _ _ _ cut.legible cut.begins

pub returns-clause-ok : goal.returns-clause-ok
returns-clause-ok c =
    let fit = c.in_ok-fit_after.ensures in
    let known = c.args.known.now in
    let line = c.args.line.now in
    let keyword = c.in_ok-keyword.keyword in
    subst (λ (words : List (Bor (List ℕ))). IsFitLine known line (stated keyword words)) (sym c.deref.ensures.value)
    (cut_fit known line _ (stated keyword c.fit_after.new.words.items) fit.rest fit.shaped fit.fit
    c.in_ok-keyword.ensures.ok)
