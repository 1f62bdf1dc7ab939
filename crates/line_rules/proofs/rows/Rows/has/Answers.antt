use Rattle.line_rules.proofs.Keyed.{has_key}
use Rattle.line_rules.proofs.rows.Rows.has.Goals as goal

pub returns : goal.returns
returns c =
    has_key c.args.self.now (c.args.keyword, c.args.first.now, c.args.second.now) c.number.result
    c.is_some.result c.number.ensures c.is_some.ensures
