use Rattle.std.proofs.Common.{◌∙◌, sym}
use Rattle.line_rules.proofs.Paired.{pair_fit, pair_numbered, some_length}
use Rattle.line_rules.proofs.fit.pair_of.Goals as goal

pub returns-clause-bar : goal.returns-clause-bar
returns-clause-bar c =
    pair_numbered c.args.rows.now c.args.first.now c.args.second.now c.in_ok-split.split c.in_ok-worker.worker
    c.in_ok-split.ensures c.in_ok-worker.ensures

pub returns-clause-fit : goal.returns-clause-fit
returns-clause-fit c is version =
    pair_fit c.args.rows.now c.args.first.now c.args.second.now c.in_ok-split.split c.in_ok-worker.worker
    c.in_ok-split.ensures c.in_ok-worker.ensures version
    (some_length _ (sym c.is_empty.ensures ∙ c.if-is_empty.false))
    (some_length _ (sym c.is_empty-else-is_empty.ensures ∙ c.if-is_empty-2.false))
