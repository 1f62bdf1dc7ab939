use Rattle.std.proofs.Common.{◌≡◌, map, take}
use Rattle.line_shapes.specs.declared.keyword.Keyword.TheVariants.{Dead, Worker}
use Rattle.line_rules.specs.Known.{rows_of}
use Rattle.plan_text.specs.Names.{names_of}
use Rattle.plan_text.specs.Value.{declared_worker}
use Rattle.plan_text.proofs.built.build_workers.Given as goal

abbrev pub invariant-loop-worker : goal.invariant-loop-worker
invariant-loop-worker l =
    l.lines.items ≡ map (declared_worker (names_of Dead l.rows)) (take l.worker (rows_of Worker l.rows))
