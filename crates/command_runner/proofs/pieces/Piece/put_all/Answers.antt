use Rattle.std.proofs.Common.{◌++◌, ◌+◌, refl, rules, subst, take}
use Rattle.std.specs.List.{flat_map}
use Rattle.text_lines.specs.Streams.{AppendsFront, Moves}
use Rattle.command_runner.proofs.Waiting.{front_moved, front_of_first, moved_more, next_text, on_err_of}
use Rattle.command_runner.proofs.pieces.Piece.put_all.Goals as goal

pub returns-in_err-put-clause-err : goal.returns-in_err-put-clause-err
returns-in_err-put-clause-err g c =
    let old = g.W.Write.contents c.args.writer.now in
    let new = g.W.Write.contents c.put.new.writer in
    let place = c.loop-text.text-index in
    let next = next_text (λ text. text.now) c.args.self.now c.args.texts.now place _ _ (search rules) refl in
    let front : AppendsFront old new
    (c.args.self.now ++ flat_map (λ text. text.now) (take (place + 1) c.args.texts.now)) =
    subst (AppendsFront old new) next
    (front_moved _ _ _ _ c.loop-text.self _ c.loop-text.invariant c.in_err-put.ensures.err) in
    on_err_of c.from_residual.result
    (front_of_first (λ text. text.now) c.args.self.now c.args.texts.now (place + 1) old new front)

pub loop-text-preserved : goal.loop-text-preserved
loop-text-preserved g c =
    let old = g.W.Write.contents c.args.writer.now in
    let new = g.W.Write.contents c.put.new.writer in
    let next = next_text (λ text. text.now) c.args.self.now c.args.texts.now c.loop-text.text-index _ _
    (search rules) refl in
    subst (λ text. Moves old new text c.put.new.self) next
    (moved_more _ _ _ _ c.loop-text.self _ c.loop-text.invariant _ c.in_ok-put.ensures.ok)
