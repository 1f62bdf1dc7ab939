-- What a row of the code says.
use Rattle.line_shapes.specs.Lines.{Statement, statement_of}
use Rattle.line_shapes.specs.declared.keyword.Keyword.TheVariants.{Split, Worker}
use Rattle.line_rules.specs.declared.rows.Row.{Row}
use Rattle.line_rules.specs.declared.rows.Row.TheVariants as row
use Rattle.line_rules.specs.Rows.{bar_said, name_in}

abbrev pub row_said : Row → Statement
row_said (row.Line l) = statement_of l
row_said (row.Bar b) = bar_said (name_in Split b.rows.now b.split) (name_in Worker b.rows.now b.worker)
