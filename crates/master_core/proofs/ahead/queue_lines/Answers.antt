use Rattle.std.proofs.Common.{◌<◌, ◌∙◌, ◌∷◌, ◌++◌, [], arith, false, length, map, sym}
use Rattle.std.proofs.lemmas.Grind.{common_steps}
use Rattle.std.proofs.lemmas.List.{length-map, take_all, take_more}
use Rattle.wave_problem.specs.declared.lines.WorkerLine.{WorkerLine}
use Rattle.master_state.specs.Steps.{queue_lines, worker_line}
use Rattle.master_core.proofs.Heads.{length-queue, queue_at}
use Rattle.master_core.proofs.ahead.queue_lines.Goals as goal

abbrev no_line : WorkerLine
no_line = record { live = false; free = 0 }

pub loop-i-preserved : goal.loop-i-preserved
loop-i-preserved c =
    let asked = c.args.asked.now in
    let lines = map worker_line c.args.workers.now in
    let queue = queue_lines asked lines in
    let i = c.loop-i.i in
    let before = c.loop-i.invariant in
    let there : i < length lines = omega (arith, c.loop-i-test.true, length-map c.args.workers.now worker_line) in
    let made = c.queue_line.ensures ∙ sym (queue_at asked lines i no_line there) in
    record {
      items = c.push_reserved.ensures.items ∙ (λ j. before.items j ++ made j ∷ [])
          ∙ sym (take_more queue i no_line (omega (arith, there, length-queue asked lines)));
      len = grind (arith, common_steps);
      room = grind (arith, common_steps);
    }

pub returns : goal.returns
returns c =
    let lines = map worker_line c.args.workers.now in
    let queue = queue_lines c.args.asked.now lines in
    c.loop-i.invariant.items
    ∙ take_all c.loop-i.i queue (omega (
      arith,
      c.loop-i-test.false,
      length-queue c.args.asked.now lines,
      length-map c.args.workers.now worker_line,
    ))
