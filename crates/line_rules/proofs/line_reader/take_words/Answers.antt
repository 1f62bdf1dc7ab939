use Rattle.std.proofs.Common.{List, Bor, ℕ, ◌∙◌, ap}
use Rattle.line_shapes.specs.Lines.{stated}
use Rattle.line_rules.specs.Known.{entered}
use Rattle.line_rules.proofs.LineErrors.{cut_fit}
use Rattle.line_rules.proofs.line_reader.take_words.Goals as goal

pub returns-clause-ok : goal.returns-clause-ok
returns-clause-ok c line cut =
    let fit = c.in_ok-bar.ensures in
    let old = c.args.known.now in
    let said = stated c.args.keyword c.fit_after.new.words.items in
    let is = cut_fit old line c.args.rest said fit.rest fit.shaped fit.fit cut in
    record {
      statement = said;
      printable = is.printable;
      not_ended = is.not_ended;
      says = is.says;
      enters = record {
        fit = fit.fit;
        known = c.in_ok-enter.ensures.ok
            ∙ ap (λ (words : List (Bor (List ℕ))). entered old (stated c.args.keyword words)) c.deref.ensures.value;
      };
    }
