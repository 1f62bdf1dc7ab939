use Rattle.std.proofs.Common.{ap, ◌∙◌}
use Rattle.std.specs.Prelude.{fold}
use Rattle.std.specs.List.{list_all}
use Rattle.node_ids.specs.Sets.{is_in_row}
use Rattle.master_state.specs.Tests.{part_is_done}
use Rattle.master_state.specs.Changes.{died}
use Rattle.worker_table.specs.Workers.{with_death}
use Rattle.master_tables.proofs.Burials.{buried_is, made_buried, with_tables}
use Rattle.master_tables.proofs.deaths.bury_all.Goals as goal

pub returns-then-is_empty-clause-died : goal.returns-then-is_empty-clause-died
returns-then-is_empty-clause-died c s workers holders splits parts =
    ap (fold died s) (c.is_empty.ensures.0 c.if-is_empty.true)
    ∙ (λ k. with_tables s (workers k) (holders k) (splits k) (parts k))

pub returns-clause-died : goal.returns-clause-died
returns-clause-died c s workers holders splits parts =
    buried_is s c.args.dead.now.items (is_in_row c.dead-those.result) c.args.splits.now.items
    (λ w. ap (λ items. is_in_row items w) c.dead-those.ensures)
    workers holders splits parts
    (c.bury_each.ensures ∙ ap (fold with_death c.args.workers.now) c.as_slice.ensures.value)
    c.drop_all.ensures c.end_all.ensures.splits c.end_all.ensures.parts

pub returns-clause-made : goal.returns-clause-made
returns-clause-made c setup made =
    made_buried setup (list_all part_is_done c.args.parts.now.items)
    (λ attempt. is_in_row c.dead-those.result attempt.worker) c.args.splits.now.items
    c.end_all.ensures.splits made
