use Rattle.std.specs.Str.{bytes_eq}
use Rattle.std.proofs.lemmas.Slice.Eq.{bytes_eq-Decides}
use Rattle.text_lines.proofs.Keys.{found_key}
use Rattle.text_lines.proofs.tables.NameTable.has.Goals as goal

pub returns : goal.returns
returns c =
    found_key bytes_eq bytes_eq-Decides (λ name. name.now)
    c.contains.result _ c.self.inside.names.keys _ c.self.view_is c.contains.ensures
