use Rattle.std.proofs.Common.{◌+◌, ◌≤◌, length, length-append, refl, take}
use Rattle.std.proofs.Common.{List, ℕ, ◌++◌, ◌∷◌, ◌∙◌, [], ap, map, subst, sym, take_all, Bor}
use Rattle.std.specs.List.{All}
use Rattle.line_rules.specs.Holders.{AreNumbersOf, IsWorker}
use Rattle.line_rules.proofs.Held.{numbers_more, one_worker, workers_more}
use Rattle.line_rules.proofs.holders.put_numbers.Goals as goal

pub returns-in_default-clause-held : goal.returns-in_default-clause-held
returns-in_default-clause-held c = (
  λ t. cc,
  λ all.
      let none = rw c.in_default.is at c.worker_number.ensures in
      absurd (none (one_worker c.args.rows.now c.args.names.now c.loop-i.i _ c.loop-i-test.true all)),
)

pub loop-i-preserved : goal.loop-i-preserved
loop-i-preserved c =
    let rows = c.args.rows.now in
    let names = c.args.names.now in
    let i = c.loop-i.i in
    record {
      numbers = subst (λ ns. AreNumbersOf rows (map (λ n. n.now) (take (i + 1) names)) ns)
          (ap (λ n. c.loop-i.numbers.items ++ n ∷ []) (sym c.in_ok-short_number.ensures)
          ∙ sym c.push_reserved.ensures.items)
          (numbers_more rows names i c.in-Some.number _ c.loop-i.numbers.items c.loop-i-test.true
          c.loop-i.invariant.numbers c.in-Some.ensures.1);
      held = workers_more rows names i _ c.loop-i-test.true c.loop-i.invariant.held c.in-Some.ensures.0;
      room = subst (λ n. length names ≤ n) (sym c.push_reserved.ensures.capacity) c.loop-i.invariant.room;
      count = ap length c.push_reserved.ensures.items ∙ length-append c.loop-i.numbers.items _
          ∙ ap (λ n. n + 1) c.loop-i.invariant.count;
    }

pub returns-clause-held : goal.returns-clause-held
returns-clause-held c =
    let all = subst (λ (ns : List (Bor (List ℕ))). All (IsWorker c.args.rows.now) (map (λ n. n.now) ns))
    (take_all c.loop-i.i c.args.names.now c.loop-i-test.false) c.loop-i.invariant.held in
    (λ t. all, λ h. refl)
