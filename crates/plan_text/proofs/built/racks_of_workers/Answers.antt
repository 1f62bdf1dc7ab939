use Rattle.std.proofs.Common.{◌<◌, arith, length, subst, sym}
use Rattle.line_shapes.specs.declared.keyword.Keyword.TheVariants.{Rack, Worker}
use Rattle.line_rules.specs.Known.{rows_of}
use Rattle.std.specs.List.{Contains}
use Rattle.plan_text.specs.Names.{names_of}
use Rattle.plan_text.proofs.Words.{worker_at}
use Rattle.plan_text.proofs.built.racks_of_workers.Goals as goal

pub rack-requires : goal.rack-requires
rack-requires c =
    let rows = c.args.rows.now in
    let inside : c.loop-worker.worker < length (rows_of Worker rows) =
    omega (arith, c.loop-worker-test.true, c.count-count.ensures.value) in
    subst (Contains (names_of Rack rows)) (sym c.word.ensures)
    (worker_at rows c.count-count.ensures.tidy c.loop-worker.worker inside).rack
