use Rattle.std.proofs.Common.{◌≡◌, ◌++◌, ◌+◌, ◌≤◌, arith, length, subst, ℕ}
use Rattle.std.specs.List.{flat_map}
use Rattle.text_lines.specs.Streams.{AppendsFront, Moves}
use Rattle.command_runner.proofs.Waiting.{front_moved, moved_more, on_err_of}
use Rattle.block_map.specs.Copies.{copies_below, copy_at, holdings, one_or_none}
use Rattle.report_lines.specs.Lines.{copy_line}
use Rattle.report_lines.proofs.Written.{front_of_copies, next_copy}
use Rattle.report_lines.proofs.turns.put_copies.Goals as goal

pub loop-number-preserved : goal.loop-number-preserved
loop-number-preserved g c =
    let old = g.W.Write.contents c.args.writer.now in
    let mid = g.W.Write.contents c.loop-number.writer in
    let new = g.W.Write.contents c.put_copy_at.new.writer in
    let line = copy_line c.args.splits.now c.args.workers.now in
    let story = c.args.story.now in
    let h = holdings c.args.tables.now.workers story.tree c.args.tables.now.holders story.target in
    let next = subst (λ (s : ℕ). Moves mid new
    (c.loop-number.piece ++ flat_map line (one_or_none (copy_at h s))) c.put_copy_at.new.piece)
    c.new-split.ensures c.in_ok-put_copy_at.ensures.ok in
    subst (λ text. Moves old new text c.put_copy_at.new.piece)
    (next_copy line c.args.piece.now h c.loop-number.number)
    (moved_more _ _ _ _ c.loop-number.piece _ c.loop-number.invariant _ next)

pub returns-in_err-put_copy_at-clause-err : goal.returns-in_err-put_copy_at-clause-err
returns-in_err-put_copy_at-clause-err g c =
    let old = g.W.Write.contents c.args.writer.now in
    let mid = g.W.Write.contents c.loop-number.writer in
    let new = g.W.Write.contents c.put_copy_at.new.writer in
    let line = copy_line c.args.splits.now c.args.workers.now in
    let story = c.args.story.now in
    let n = c.loop-number.number in
    let h = holdings c.args.tables.now.workers story.tree c.args.tables.now.holders story.target in
    let next = subst (λ (s : ℕ). AppendsFront mid new
    (c.loop-number.piece ++ flat_map line (one_or_none (copy_at h s))))
    c.new-split.ensures c.in_err-put_copy_at.ensures.err in
    let front = subst (AppendsFront old new) (next_copy line c.args.piece.now h n)
    (front_moved _ _ _ _ c.loop-number.piece _ c.loop-number.invariant next) in
    let below : n + 1 ≤ length c.args.tables.now.holders =
    omega (arith, c.loop-number-test.true, c.splits-number-end.ensures.count) in
    on_err_of c.from_residual.result
    (front_of_copies line c.args.piece.now old new h (n + 1) (length c.args.tables.now.holders) below front)

pub returns-clause-ok : goal.returns-clause-ok
returns-clause-ok g c =
    let old = g.W.Write.contents c.args.writer.now in
    let new = g.W.Write.contents c.loop-number.writer in
    let line = copy_line c.args.splits.now c.args.workers.now in
    let story = c.args.story.now in
    let h = holdings c.args.tables.now.workers story.tree c.args.tables.now.holders story.target in
    let all : c.loop-number.number ≡ length c.args.tables.now.holders =
    omega (
      arith,
      c.loop-number-test.false,
      c.loop-number.auto.number-end,
      c.splits-number-end.ensures.count,
    ) in
    let Done : ℕ → Type 0 =
    λ n. Moves old new (c.args.piece.now ++ flat_map line (copies_below h n)) c.loop-number.piece in
    subst Done all c.loop-number.invariant
