use Rattle.std.specs.Str.{bytes_eq}
use Rattle.std.proofs.lemmas.Slice.Eq.{bytes_eq-Decides}
use Rattle.text_lines.proofs.Keys.{declared}
use Rattle.text_lines.proofs.tables.NameTable.declare.Goals as goal

pub returns-clause-ok : goal.returns-clause-ok
returns-clause-ok c =
    declared bytes_eq bytes_eq-Decides (λ name. name.now)
    c.args.name _ _ _ c.self.view_is c.in_ok-insert.ensures.keys c.requires
