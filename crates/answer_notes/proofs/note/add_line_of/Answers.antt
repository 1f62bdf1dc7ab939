use Rattle.std.proofs.Common.{arith, subst}
use Rattle.answer_notes.specs.Notes.{IsMarked}
use Rattle.answer_notes.proofs.note.add_line_of.Goals as goal

pub returns : goal.returns
returns c =
    let marked = c.in_ok-add_marked.ensures in
    record {
      added = marked.added;
      is_so = record {
        whole = λ none. absurd (grind (arith, none, c.if-fault-eq0.false));
        marked = λ more. subst (λ line. IsMarked line marked.added) c.line_at-line.ensures marked.is_so;
      };
      grown = marked.grown;
    }
