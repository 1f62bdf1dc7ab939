use Rattle.std.proofs.Common.{[], ◌∷◌, sym, ◌∙◌, ◌==◌}
use Rattle.std.specs.List.{list_all}
use Rattle.std.proofs.Math.Bool.{or-false}
use Rattle.master_state.specs.Tests.{is_on, part_is_done}
use Rattle.master_tables.proofs.Burials.{buried_is, made_buried, turned_round}
use Rattle.master_tables.proofs.deaths.bury.Goals as goal

pub returns-clause-died : goal.returns-clause-died
returns-clause-died c s workers holders splits parts =
    let w = c.args.worker in
    buried_is s (w ∷ []) (λ v. v == w) c.args.splits.now.items
    (λ v. turned_round v w ∙ sym (or-false (w == v))) workers holders splits parts c.die.ensures
    c.drop_worker.ensures c.end_all.ensures.splits c.end_all.ensures.parts

pub returns-clause-made : goal.returns-clause-made
returns-clause-made c setup made =
    made_buried setup (list_all part_is_done c.args.parts.now.items) (is_on c.args.worker)
    c.args.splits.now.items c.end_all.ensures.splits made
