use Rattle.std.proofs.Common.{string_bytes}
use Rattle.std.specs.List.{flat_map}
use Rattle.std.proofs.lemmas.Result.{on_err_weaker, on_ok_weaker}
use Rattle.command_runner.proofs.Waiting.{front_moved_both, front_of_both, moved_both, on_err_of}
use Rattle.report_lines.specs.Lines.{copy_line}
use Rattle.report_lines.specs.Past.{copies_of}
use Rattle.report_lines.proofs.turns.put_turn.Goals as goal

pub returns-in_err-put-clause-err : goal.returns-in_err-put-clause-err
returns-in_err-put-clause-err g c =
    let copies = flat_map (copy_line c.args.splits.now c.args.workers.now)
    (copies_of c.args.story.now.tree c.args.story.now.target c.args.tables.now) in
    on_err_of c.from_residual.result
    (front_of_both c.args.piece.now (string_bytes c.args.turn.now.before) copies _ _
    (rw c.as_bytes.ensures.value at c.in_err-put.ensures.err))

pub returns-clause-ok : goal.returns-clause-ok
returns-clause-ok g c =
    on_ok_weaker c.put_copies.result
    (λ next. moved_both c.args.piece.now (string_bytes c.args.turn.now.before) _ _ _ _ _ _
    (rw c.as_bytes.ensures.value at c.in_ok-put.ensures.ok) next)
    c.put_copies.ensures.ok

pub returns-clause-err : goal.returns-clause-err
returns-clause-err g c =
    on_err_weaker c.put_copies.result
    (λ next. front_moved_both c.args.piece.now (string_bytes c.args.turn.now.before) _ _ _ _ _
    (rw c.as_bytes.ensures.value at c.in_ok-put.ensures.ok) next)
    c.put_copies.ensures.err
