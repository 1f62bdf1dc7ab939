use Rattle.std.proofs.Common.{◌∙◌, refl, sym}
use Rattle.node_ids.proofs.Rows.{in-found, is_found}
use Rattle.node_ids.proofs.sets.SplitSet.has.Goals as goal

pub returns : goal.returns
returns c = rw (sym c.self.view_is) (c.is_ok.ensures.value ∙ in-found c.self.inside.splits.items c.args.split
    c.binary_search.result
    (is_found c.self.inside.splits.items c.deref.result.now c.args.split c.binary_search.result
    c.binary_search.result c.deref.ensures.value refl
    c.binary_search.ensures.position c.self.invariant))
