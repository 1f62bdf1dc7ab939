use Rattle.std.proofs.Common.{◌∙◌, ap, refl}
use Rattle.node_ids.specs.Sets.{is_in_row}
use Rattle.node_ids.proofs.Rows.{in-found, is_found}
use Rattle.worker_table.proofs.dead_list.Dead.has.Goals as goal

pub returns : goal.returns
returns c =
    let row = c.self.inside.workers.now in
    c.is_ok.ensures.value
    ∙ in-found row c.args.worker c.binary_search.result
    (is_found row row c.args.worker c.binary_search.result c.binary_search.result refl refl
    c.binary_search.ensures.position c.self.invariant)
    ∙ ap (λ items. is_in_row items c.args.worker) c.self.view_is
