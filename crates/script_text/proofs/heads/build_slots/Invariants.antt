use Rattle.std.proofs.Common.{◌≡◌, map, take}
use Rattle.line_shapes.specs.declared.keyword.Keyword.TheVariants.{Worker}
use Rattle.line_rules.specs.Known.{rows_of}
use Rattle.script_text.specs.Heads.{slots_told}
use Rattle.script_text.proofs.heads.build_slots.Given as goal

abbrev pub invariant-loop-worker : goal.invariant-loop-worker
invariant-loop-worker l = l.slots.items ≡ map slots_told (take l.worker (rows_of Worker l.rows))
