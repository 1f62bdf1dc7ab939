use Rattle.std.proofs.Common.{◌∙◌, false, sym, arith}
use Rattle.std.proofs.lemmas.List.{ext_get_or, get_or-map, length-map}
use Rattle.wave_problem.specs.Wave.{Split}
use Rattle.tree_planner.proofs.Flagged.{no_split}
use Rattle.tree_planner.proofs.renewed.all_pending.Goals as goal

pub returns : goal.returns
returns c =
    (let splits = c.args.problem.now.splits in
    let size = length-map splits (λ (x : Split). x.pending) in
    ext_get_or false c.loop-s.pending.items _ (omega (arith, c.loop-s.invariant.size))
    (λ i l. c.loop-s.invariant.each i (omega arith)
    ∙ sym (get_or-map (λ (x : Split). x.pending) splits i no_split false (omega arith))))
