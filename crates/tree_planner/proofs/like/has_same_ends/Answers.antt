use Rattle.std.proofs.Common.{◌∙◌, sym}
use Rattle.tree_planner.proofs.Alike.{ends_alike}
use Rattle.tree_planner.proofs.like.has_same_ends.Goals as goal

pub returns : goal.returns
returns c = λ same e.
    ends_alike c.args.one.now c.args.other.now c.args.split c.requires.like.tree c.requires.like.slots.workers
    (c.has_same_bars.ensures same)
    (sym c.is_pending-there.ensures ∙ c.if-not-there.false ∙ sym c.if-not-here.false ∙ c.is_pending-here.ensures)
    (c.has_same_holders.ensures c.if-not-has_same_holders.false) e
