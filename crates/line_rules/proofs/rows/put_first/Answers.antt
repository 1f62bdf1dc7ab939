use Rattle.std.proofs.Common.{[], refl}
use Rattle.line_rules.proofs.Keyed.{key_put_first}
use Rattle.line_rules.proofs.rows.put_first.Goals as goal

pub returns-clause-put : goal.returns-clause-put
returns-clause-put c is others =
    let put = c.put.ensures.put is in
    key_put_first c.args.firsts.now.entries _ others c.args.word c.args.keyword c.args.number [] put.1 put.0 refl
