use Rattle.std.proofs.Common.{arith, subst, sym}
use Rattle.tree_planner.specs.Lows.{IsLow}
use Rattle.tree_planner.specs.Searching.{state_at, wave_of}
use Rattle.tree_planner.proofs.over.learn_low.Goals as goal

pub is_past_low-requires-clause-low : goal.is_past_low-requires-clause-low
is_past_low-requires-clause-low c =
    subst (λ low. IsLow (wave_of c.args.ground.now) (state_at c.args.ground.now) c.args.leaving.split low)
    (sym c.of-low.ensures) (c.requires.searching.low c.args.leaving.split)

pub returns-then-not-is_same-clause-searching : goal.returns-then-not-is_same-clause-searching
returns-then-not-is_same-clause-searching c =
    let none = c.nothing_but.ensures in
    c.note_low.ensures.kept c.args.ground.now c.requires.searching (record {
      least = λ x is other. omega arith;
      most = omega arith;
    })

pub returns-then-is_empty-clause-searching : goal.returns-then-is_empty-clause-searching
returns-then-is_empty-clause-searching c =
    c.note_low-then-is_empty.ensures.kept c.args.ground.now c.requires.searching (record {
      least = c.least_elsewhere-least.ensures.least;
      most = c.least_elsewhere-least.ensures.most;
    })
