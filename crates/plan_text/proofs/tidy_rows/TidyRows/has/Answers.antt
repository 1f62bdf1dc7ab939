use Rattle.std.proofs.Common.{List, ◌≡◌, subst}
use Rattle.line_shapes.specs.Lines.{Statement}
use Rattle.plan_text.specs.Names.{names_of}
use Rattle.plan_text.specs.Value.{stands_in}
use Rattle.plan_text.proofs.Named.{stands_named}
use Rattle.plan_text.proofs.tidy_rows.TidyRows.has.Goals as goal

pub returns : goal.returns
returns c =
    let name = c.args.name.now in
    subst (λ (rows : List Statement). c.has.result ≡ stands_in (names_of c.args.keyword rows) name)
    c.self.view_is
    (stands_named c.args.keyword c.requires c.self.inside.rows.now name c.has.result c.has.ensures)
