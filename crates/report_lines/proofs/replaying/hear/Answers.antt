use Rattle.std.proofs.Common.{◌≡◌, ◌∙◌, ◌+◌, ◌++◌, ◌-◌, ◌<◌, ◌≤◌, ℕ, [], ap, arith, drop, length, subst}
use Rattle.std.proofs.Common.{sym, take}
use Rattle.std.proofs.Math.Numerals.{add-one}
use Rattle.std.specs.Prelude.{slice_index, slice_index_or}
use Rattle.node_ids.proofs.Updating.{length-updated}
use Rattle.node_ids.specs.Updates.{updated}
use Rattle.worker_table.specs.declared.Worker.{Worker}
use Rattle.worker_table.specs.Workers.{Workers, heard, heard_from, with_beats}
use Rattle.report_lines.proofs.Hearing.{all_heard, hear_next}
use Rattle.report_lines.proofs.replaying.hear.Goals as goal

pub loop-number-preserved : goal.loop-number-preserved
loop-number-preserved c =
    let was = c.loop-number.invariant in
    let now = c.loop-number.workers in
    let init = c.args.workers.now in
    let m = c.loop-number.number in
    let row = slice_index_or c.args.sweeps.now.items (c.args.place - 1) [] in
    let change = λ (worker : Worker). heard now.limit worker (slice_index row m) in
    let next = updated change now.each m in
    let is : c.hear.new.self ≡ record now { each = next } =
    c.hear.ensures ∙ (λ k. with_beats now (c.new.ensures k) (c.count_at-count.ensures k)) in
    let inside : m < length now.each =
    omega (arith, c.loop-number-test.true, ap length c.workers-number-end.ensures.value, was.size) in
    let step = subst
    (λ (n : ℕ). take n next ++ heard_from (m + 1) now.limit (drop n next) row
    ≡ take m now.each ++ heard_from m now.limit (drop m now.each) row)
    (sym (add-one m)) (hear_next m now.limit now.each row m inside) in
    record {
      size = ap (λ (t : Workers). length t.each) is ∙ length-updated change now.each m ∙ was.size;
      each = subst
          (λ (t : Workers). take (m + 1) t.each ++ heard_from (m + 1) t.limit (drop (m + 1) t.each) row
          ≡ heard_from 0 t.limit init.each row)
          (sym is) (step ∙ was.each);
      same = is ∙ (λ k. record (was.same k) { each = next }) ∙ sym (λ k. record init { each = (is k).each });
    }

pub returns : goal.returns
returns c =
    let was = c.loop-number.invariant in
    let now = c.loop-number.workers in
    let init = c.args.workers.now in
    let row = slice_index_or c.args.sweeps.now.items (c.args.place - 1) [] in
    let past : length now.each ≤ c.loop-number.number =
    omega (arith, c.loop-number-test.false, ap length c.workers-number-end.ensures.value, was.size) in
    let each : now.each ≡ heard_from 0 init.limit init.each row =
    sym (all_heard c.loop-number.number now.limit now.each row c.loop-number.number past) ∙ was.each
    ∙ (λ k. heard_from 0 (was.same k).limit init.each row) in
    was.same ∙ (λ k. record init { each = each k })
