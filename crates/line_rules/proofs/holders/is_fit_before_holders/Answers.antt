use Rattle.std.proofs.Common.{arith}
use Rattle.line_rules.proofs.Held.{split_fit}
use Rattle.line_rules.proofs.holders.is_fit_before_holders.Goals as goal

pub returns : goal.returns
returns c t held =
    split_fit c.args.version c.args.rows.now c.args.words.now _ _ _ _
    (omega (arith, c.if-words-lt-FIRST_HOLDER.false))
    c.place.ensures c.place-2.ensures (c.is_fit.ensures c.if-not-is_fit.false) (c.is_fit-2.ensures t) held
