use Rattle.std.proofs.Common.{arith, ◌≡◌, [], ◌∷◌, ◌∙◌, ap, subst}
use Rattle.std.specs.List.{All}
use Rattle.std.proofs.lemmas.List.Elements.{All-head, All-tail}
use Rattle.text_lines.specs.Texts.{IsPrintable, lines_of}
use Rattle.line_rules.proofs.ReadTo.{error_of_text, least_at_rest, least_fault, read_more, reads_all}
use Rattle.line_rules.proofs.ReadTo.{some_line}
use Rattle.line_rules.proofs.line_reader.take_lines.Goals as goal

pub returns-in-Some-fault_of_rest-clause-err : goal.returns-in-Some-fault_of_rest-clause-err
returns-in-Some-fault_of_rest-clause-err c =
    let alone = rw c.in_default.is at c.split_line.ensures in
    let fault = c.in-Some-fault_of_rest.fault in
    rw c.fault_in.ensures
    (least_fault _ c.args.text.now c.loop-after.lines_read fault
    (least_at_rest _ c.args.text.now _ c.split_line.result.0.now c.loop-after.lines_read _ fault
    c.requires.short c.loop-after.invariant.0 alone c.in-Some-fault_of_rest.ensures))

pub returns-in-None-clause-ok : goal.returns-in-None-clause-ok
returns-in-None-clause-ok c =
    let alone = rw c.in_default.is at c.split_line.ensures in
    let empty : lines_of c.loop-after.rest.now ≡ [] ∷ [] = alone
    ∙ ap (λ line. line ∷ []) c.in-None.ensures.0 in
    reads_all _ c.args.text.now _ c.loop-after.lines_read _ c.requires.short c.loop-after.invariant.0 empty
    c.in-None.ensures.1

pub returns-in-Err-clause-err : goal.returns-in-Err-clause-err
returns-in-Err-clause-err c =
    let follows = rw c.in-Some.is at c.split_line.ensures in
    rw c.error_in.ensures
    (error_of_text _ c.args.text.now _ c.split_line.result.0.now
    (lines_of c.in-Some.after.now) c.loop-after.lines_read _
    c.in-Err.error c.requires.short c.loop-after.invariant.0 follows.0
    (some_line c.in-Some.after.now) c.in-Err.ensures.err)

pub loop-after-preserved : goal.loop-after-preserved
loop-after-preserved c =
    let follows = rw c.in-Some.is at c.split_line.ensures in (
      read_more _ c.args.text.now _ c.split_line.result.0.now
          (lines_of c.in-Some.after.now) c.loop-after.lines_read _ _
          c.loop-after.invariant.0 follows.0
          (some_line c.in-Some.after.now) c.in_default-take_line.ensures.ok,
      omega (arith, c.loop-after.invariant.1, follows.1),
      λ t. All-tail (All IsPrintable) c.split_line.result.0.now (lines_of c.in-Some.after.now)
          (subst (All (All IsPrintable)) follows.0 (c.loop-after.invariant.2 t)),
    )

pub take_line-requires : goal.take_line-requires
take_line-requires c t =
    let follows = rw c.in-Some.is at c.split_line.ensures in
    All-head (All IsPrintable) c.split_line.result.0.now (lines_of c.in-Some.after.now)
    (subst (All (All IsPrintable)) follows.0 (c.loop-after.invariant.2 t))
