use Rattle.std.proofs.Common.{◌∙◌, sym, ap, refl}
use Rattle.std.specs.List.{position}
use Rattle.std.specs.Str.{bytes_eq}
use Rattle.std.proofs.lemmas.Slice.Eq.{bytes_eq-Decides}
use Rattle.text_lines.proofs.Keys.{found_key, position-map, some_by_test}
use Rattle.text_lines.proofs.tables.NameTable.number.Goals as goal

pub returns-clause-number : goal.returns-clause-number
returns-clause-number c =
    c.get_index_of.ensures.index
    ∙ sym (position-map (λ name. name.now) (bytes_eq c.args.name.now) c.self.inside.names.keys)
    ∙ ap (position (bytes_eq c.args.name.now)) c.self.view_is

pub returns-clause-known : goal.returns-clause-known
returns-clause-known c =
    some_by_test c.get_index_of.result _ _ c.get_index_of.ensures.found
    (found_key bytes_eq bytes_eq-Decides (λ name. name.now)
    _ _ c.self.inside.names.keys _ c.self.view_is refl)
