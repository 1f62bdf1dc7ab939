use Rattle.std.proofs.Common.{subst}
use Rattle.std.proofs.lemmas.Result.{IfErr-weaker, on_ok_weaker}
use Rattle.line_shapes.specs.declared.keyword.Keyword.{Keyword}
use Rattle.line_rules.specs.Reading.{IsCut}
use Rattle.line_rules.proofs.LineErrors.{has_keyword}
use Rattle.line_rules.proofs.line_reader.take_line.Goals as goal

pub returns-in-Split-clause-ok : goal.returns-in-Split-clause-ok
returns-in-Split-clause-ok c =
    let cut = subst (λ (k : Keyword). IsCut c.args.known.now c.args.line.now k c.in_ok-keyword.rest) c.in-Split.is
    c.in_ok-keyword.ensures.ok in
    on_ok_weaker c.take_words.result (λ takes. takes c.args.line.now cut) c.take_words.ensures.ok

pub returns-in-Split-clause-err : goal.returns-in-Split-clause-err
returns-in-Split-clause-err c =
    let cut = subst (λ (k : Keyword). IsCut c.args.known.now c.args.line.now k c.in_ok-keyword.rest) c.in-Split.is
    c.in_ok-keyword.ensures.ok in
    IfErr-weaker c.take_words.result _ _ (λ error least. least c.args.line.now cut) c.take_words.ensures.err

pub returns-in-Split-clause-memory : goal.returns-in-Split-clause-memory
returns-in-Split-clause-memory c memory =
    let cut = c.in_ok-keyword.ensures.ok in
    has_keyword _ _ _ _ cut.legible cut.begins

pub returns-in_default-clause-ok : goal.returns-in_default-clause-ok
returns-in_default-clause-ok c =
    on_ok_weaker c.take_other_words.result (λ takes. takes c.args.line.now c.in_ok-keyword.ensures.ok)
    c.take_other_words.ensures.ok

pub returns-in_default-clause-err : goal.returns-in_default-clause-err
returns-in_default-clause-err c =
    IfErr-weaker c.take_other_words.result _ _ (λ error least. least c.args.line.now c.in_ok-keyword.ensures.ok)
    c.take_other_words.ensures.err

pub returns-in_default-clause-memory : goal.returns-in_default-clause-memory
returns-in_default-clause-memory c memory =
    let cut = c.in_ok-keyword.ensures.ok in
    has_keyword _ _ _ _ cut.legible cut.begins
