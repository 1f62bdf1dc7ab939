use Rattle.std.proofs.Common.{◌∙◌, refl}
use Rattle.node_ids.proofs.Rows.{in-found, is_found}
use Rattle.node_ids.proofs.pairs.PairSet.has.Goals as goal

pub returns : goal.returns
returns c = c.is_ok.ensures.value ∙ in-found c.row.result.now c.args.worker c.binary_search.result
    (is_found c.row.result.now c.row.result.now c.args.worker c.binary_search.result
    c.binary_search.result refl refl
    c.binary_search.ensures.position c.row.ensures.rising) ∙ rw c.row.ensures.value refl
