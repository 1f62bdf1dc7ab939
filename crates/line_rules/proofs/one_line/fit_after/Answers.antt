use Rattle.std.proofs.Common.{List, IsTrue, map, subst, sym}
use Rattle.std.specs.Prelude.{◌↔◌}
use Rattle.line_shapes.specs.Lines.{Statement, stated, words_after}
use Rattle.line_rules.specs.Holders.{IsHeld}
use Rattle.line_rules.specs.Long.{StandsFor}
use Rattle.line_rules.proofs.Worded.{least_of_line}
use Rattle.line_rules.proofs.one_line.fit_after.Goals as goal

pub returns-in-Err-clause-err : goal.returns-in-Err-clause-err
returns-in-Err-clause-err c line cut =
    let known = c.args.known.now in
    let k = c.args.keyword in
    let long = words_after k c.args.rest in
    let stands : StandsFor known k (map (λ w. w.now) c.as_slice-words.result.now) long =
    subst (λ ws. StandsFor known k (map (λ w. w.now) ws) long) (sym c.as_slice-words.ensures.value)
    c.in_ok-cut_most.ensures in
    least_of_line known line k _ long cut.begins stands cut.legible c.in-Err.fault c.in-Err.ensures.err

pub fit_words-requires-clause-held : goal.fit_words-requires-clause-held
fit_words-requires-clause-held c =
    subst (λ (rows : List Statement). IsTrue c.in_ok-held.held
    ↔ IsHeld rows (stated c.args.keyword c.as_slice-words.result.now)) c.rows.ensures c.in_ok-held.ensures.held
