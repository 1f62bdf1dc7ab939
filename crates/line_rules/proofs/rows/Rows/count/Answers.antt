use Rattle.std.proofs.Common.{◌∙◌, ap, length}
use Rattle.line_rules.specs.Known.{rows_of}
use Rattle.line_rules.specs.Rows.{rows_in}
use Rattle.line_rules.proofs.Placed.{count_placed, list_at}
use Rattle.line_rules.proofs.rows.Rows.count.Goals as goal

pub returns : goal.returns
returns c =
    let k = c.args.keyword in
    let rows = rows_in c.self.inside.lines in
    let list = list_at rows _ c.self.invariant.0 k _ _ c.index.ensures in
    c.len.ensures ∙ c.index.result.now.ok.0 ∙ ap length list ∙ count_placed rows _ c.self.invariant.0 k
    ∙ ap (λ rows. length (rows_of k rows)) c.self.view_is
