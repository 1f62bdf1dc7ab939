use Rattle.std.proofs.Common.{List, ◌≡◌, subst}
use Rattle.std.specs.List.{position}
use Rattle.std.specs.Str.{bytes_eq}
use Rattle.line_shapes.specs.Lines.{Statement}
use Rattle.plan_text.specs.Names.{names_of}
use Rattle.plan_text.proofs.Named.{number_found}
use Rattle.plan_text.proofs.tidy_rows.TidyRows.number.Goals as goal

pub returns : goal.returns
returns c =
    let name = c.args.name.now in
    subst (λ (rows : List Statement). c.number.result
    ≡ position (λ n. bytes_eq name n) (names_of c.args.keyword rows)) c.self.view_is
    (number_found c.args.keyword c.requires c.self.inside.rows.now c.self.invariant.0.differ name
    c.number.result c.number.ensures)
