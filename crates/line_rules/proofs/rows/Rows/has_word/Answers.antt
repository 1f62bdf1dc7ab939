use Rattle.std.proofs.Common.{List, subst}
use Rattle.std.specs.Prelude.{◌↔◌, IsTrue}
use Rattle.line_shapes.specs.Lines.{Statement}
use Rattle.line_shapes.specs.declared.keyword.Keyword.{Keyword}
use Rattle.line_rules.specs.Known.{HasRow}
use Rattle.line_rules.proofs.Keyed.{found_word}
use Rattle.line_rules.proofs.rows.Rows.has_word.Goals as goal

pub returns : goal.returns
returns c =
    let word = c.args.word.now in
    let P : List Statement → Type 0 =
    λ rows. IsTrue c.has.result ↔ ((keyword : Keyword) × HasRow rows keyword word) in
    subst P c.self.view_is
    (found_word _ _ _ _ c.self.invariant.1 c.has.result word c.has.ensures)
