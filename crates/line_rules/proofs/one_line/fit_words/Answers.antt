use Rattle.std.proofs.Common.{map}
use Rattle.line_shapes.specs.Lines.{stated}
use Rattle.line_rules.proofs.Held.{fit_held}
use Rattle.line_rules.proofs.Worded.{least_of_words}
use Rattle.line_rules.proofs.one_line.fit_words.Goals as goal

pub returns-in-Some-clause-err : goal.returns-in-Some-clause-err
returns-in-Some-clause-err c =
    let words = c.args.words.now in
    least_of_words c.args.known.now c.args.keyword (map (λ w. w.now) words) (c.has_shape.ensures.0 cc)
    c.in-Some.fault c.in-Some.ensures

pub returns-in-None-clause-held : goal.returns-in-None-clause-held
returns-in-None-clause-held c =
    let said = stated c.args.keyword c.args.words.now in
    c.requires.held.1 (fit_held c.args.known.now.rows said (c.has_shape.ensures.0 cc) c.in-None.ensures.known)
