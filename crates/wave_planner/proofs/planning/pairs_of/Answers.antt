use Rattle.std.proofs.Common.{◌≡◌, get_or, None, sym, ap, ◌∙◌, arith}
use Rattle.std.proofs.lemmas.Grind.{common_steps}
use Rattle.std.proofs.lemmas.List.{get_or_default}
use Rattle.wave_problem.specs.Assignment.{start_of}
use Rattle.wave_problem.proofs.Pairs.{pairs_more_started, pairs_more_none}
use Rattle.wave_planner.proofs.planning.pairs_of.Goals as goal
use Rattle.wave_planner.proofs.planning.pairs_of.Goals.{in-Some+in_ok-push, in_default}

pub loop-s-preserved : goal.loop-s-preserved
loop-s-preserved c =
    let starts = c.args.plan.now.starts in
    let s = c.loop-s.s in
    let o = c.of.result in
    let here : o ≡ get_or starts s o =
    c.of.ensures.start ∙ ap (start_of starts) c.new-split.ensures
    ∙ sym (get_or_default starts s o None (omega arith)) in
    elim c.match-of.branch [
      | in-Some+in_ok-push w ↦
          let more = pairs_more_started starts s w.in-Some.worker o (omega arith) here w.in-Some.is in
          grind (arith, common_steps)
      | in_default w ↦
          let same = pairs_more_none starts s o (omega arith) here w.in_default.is in
          grind (arith, common_steps)
    ]
