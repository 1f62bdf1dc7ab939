use Rattle.std.proofs.Common.{◌∙◌, ap, map, sym, take}
use Rattle.std.proofs.lemmas.List.{take-map}
use Rattle.line_rules.specs.Rows.{kept_at}
use Rattle.line_rules.proofs.line_list.LineList.truncate.Goals as goal

pub returns : goal.returns
returns c =
    let at = kept_at c.self.inside.words.items in
    ap (map at) c.truncate.ensures.items ∙ sym (take-map at c.args.count c.self.inside.places.items)
    ∙ ap (take c.args.count) c.self.view_is
