use Rattle.std.proofs.Common.{string_bytes}
use Rattle.std.proofs.lemmas.Result.{on_err_weaker, on_ok_weaker}
use Rattle.command_runner.proofs.Waiting.{all_moved, front_moved_both, front_of_all, front_of_both}
use Rattle.command_runner.proofs.Waiting.{moved_both, on_err_of}
use Rattle.report_lines.specs.Reports.{turns_bytes}
use Rattle.report_lines.proofs.report.MadeReportAnswerLines.write_to.Goals as goal

pub returns-in_err-put_turns-clause-err : goal.returns-in_err-put_turns-clause-err
returns-in_err-put_turns-clause-err g c =
    let made = c.args.self in
    on_err_of c.from_residual.result
    (front_of_both made.piece (turns_bytes made.splits made.workers made.past made.lines.turns.each)
    (string_bytes made.lines.last) _ _ c.in_err-put_turns.ensures.err)

pub returns-in_err-put-clause-err : goal.returns-in_err-put-clause-err
returns-in_err-put-clause-err g c =
    let made = c.args.self in
    on_err_of c.from_residual-in_err-put.result
    (front_moved_both made.piece (turns_bytes made.splits made.workers made.past made.lines.turns.each)
    (string_bytes made.lines.last) _ _ _ _ c.in_ok-put_turns.ensures.ok
    (rw c.as_bytes.ensures.value at c.in_err-put.ensures.err))

pub returns-clause-ok : goal.returns-clause-ok
returns-clause-ok g c =
    let made = c.args.self in
    let moved = moved_both made.piece (turns_bytes made.splits made.workers made.past made.lines.turns.each)
    (string_bytes made.lines.last) _ _ _ _ _ c.in_ok-put_turns.ensures.ok
    (rw c.as_bytes.ensures.value at c.in_ok-put.ensures.ok) in
    on_ok_weaker c.finish.result (all_moved _ _ _ _ _ moved) c.finish.ensures.ok

pub returns-clause-err : goal.returns-clause-err
returns-clause-err g c =
    let made = c.args.self in
    let moved = moved_both made.piece (turns_bytes made.splits made.workers made.past made.lines.turns.each)
    (string_bytes made.lines.last) _ _ _ _ _ c.in_ok-put_turns.ensures.ok
    (rw c.as_bytes.ensures.value at c.in_ok-put.ensures.ok) in
    on_err_weaker c.finish.result (front_of_all _ _ _ _ _ moved) c.finish.ensures.err
