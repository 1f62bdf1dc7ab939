use Rattle.std.proofs.Common.{◌∙◌, ap, sym, arith}
use Rattle.wave_problem.specs.declared.lines.WorkerLine.{WorkerLine}
use Rattle.tree_planner.proofs.Gained.{held_more}
use Rattle.tree_planner.proofs.going.hold_back_at.Goals as goal

pub returns : goal.returns
returns c = λ first held.
    (let line = c.line_of.ensures.line in
    held_more first c.args.next.now c.set_worker.new.self c.args.worker c.fewest-line.result c.requires held
    c.set_worker.ensures
    (c.fewest-line.ensures.live ∙ ap (λ (l : WorkerLine). l.live) line)
    (let less = c.fewest-line.ensures.less in let same = ap (λ (l : WorkerLine). l.free) line in omega arith)
    (λ dead. c.fewest-line.ensures.dead (sym c.fewest-line.ensures.live ∙ dead)
    ∙ ap (λ (l : WorkerLine). l.free) line))
