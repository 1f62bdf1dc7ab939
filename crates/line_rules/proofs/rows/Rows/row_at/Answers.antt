use Rattle.std.proofs.Common.{List, ◌≡◌, ◌<◌, ◌∙◌, length, subst}
use Rattle.line_shapes.specs.Lines.{Statement, statement_of}
use Rattle.line_shapes.specs.declared.keyword.Keyword.TheVariants.{Split, Worker}
use Rattle.line_rules.specs.Rows.{IsRowAt, bar_said, name_in}
use Rattle.line_rules.specs.Rows.Kept.{Line}
use Rattle.line_rules.proofs.Barred.{kept_there, row_bar, row_kept}
use Rattle.line_rules.proofs.rows.Rows.row_at.Goals as goal

pub returns-in-Some-Line : goal.returns-in-Some-Line
returns-in-Some-Line c =
    let said = statement_of c.in-Some-Line.line in
    subst (λ (rows : List Statement). (c.args.place < length rows) × IsRowAt rows c.args.place said)
    c.self.view_is (row_kept c.self.inside.lines c.args.place (Line said)
    (kept_there c.self.inside.lines c.args.place _ _ c.in-Some-Line.field-0-is c.in-Some-Line.ensures))

pub returns-in-Some-Bar : goal.returns-in-Some-Bar
returns-in-Some-Bar c =
    let split = c.in-Some-Bar.split in
    let worker = c.in-Some-Bar.worker in
    subst (λ (rows : List Statement). (c.args.place < length rows)
    × IsRowAt rows c.args.place (bar_said (name_in Split rows split) (name_in Worker rows worker)))
    c.self.view_is (row_bar c.self.inside.lines c.args.place split worker
    (kept_there c.self.inside.lines c.args.place _ _ c.in-Some-Bar.field-0-is c.in-Some-Bar.ensures))
