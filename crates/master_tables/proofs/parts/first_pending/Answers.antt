use Rattle.std.proofs.Common.{ap, sym, ◌∙◌, arith, length, ◌≤◌}
use Rattle.std.proofs.lemmas.List.Sums.{position_or_len_is}
use Rattle.std.proofs.lemmas.List.Folds.{list_any_none}
use Rattle.master_state.specs.Tests.{part_is_pending}
use Rattle.master_tables.proofs.parts.first_pending.Goals as goal

pub returns-then-part_is_pending-clause-lowest : goal.returns-then-part_is_pending-clause-lowest
returns-then-part_is_pending-clause-lowest c =
    let inside : c.loop-i.i ≤ length c.args.parts.now = omega arith in
    c.new.ensures
    ∙ sym (position_or_len_is part_is_pending c.args.parts.now c.loop-i.i
    c.index-parts-i.result inside (λ k below. c.loop-i.invariant k _ below)
    (λ _. ap part_is_pending (sym c.index-parts-i.is) ∙ sym c.part_is_pending.ensures
    ∙ c.if-part_is_pending.true))

pub returns-clause-found : goal.returns-clause-found
returns-clause-found c =
    sym (list_any_none part_is_pending c.args.parts.now
    (λ k d below. c.loop-i.invariant k d (omega (arith, c.loop-i-test.false))))
