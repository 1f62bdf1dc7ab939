use Rattle.std.proofs.Common.{◌≡◌, ◌∙◌, ◌-◌, ◌<◌, ap, arith, length, sym, true, false, ℕ}
use Rattle.std.specs.Prelude.{filter, fold}
use Rattle.std.specs.List.{range_with_len}
use Rattle.worker_table.specs.Workers.{Workers, is_silent}
use Rattle.report_lines.specs.Past.{without_dead}
use Rattle.report_lines.proofs.Bare.{length_death}
use Rattle.report_lines.proofs.Hearing.{silent_later, step_next, step_past}
use Rattle.report_lines.proofs.replaying.sweep.Goals as goal
use Rattle.report_lines.proofs.replaying.sweep.Goals.{then-is_silent, else-is_silent}

pub loop-number-preserved : goal.loop-number-preserved
loop-number-preserved c =
    let was = c.loop-number.invariant in
    let i = c.loop-number.number in
    let now = c.loop-number.tables in
    let heard = c.hear.new.workers in
    let n = length heard.each in
    let inside : i < n =
    omega (arith, c.loop-number-test.true, ap length c.workers-number-end.ensures.value) in
    let told : c.is_silent.result ≡ is_silent heard i =
    c.is_silent.ensures ∙ ap (is_silent now.workers) c.new-worker.ensures ∙ was.later i (omega arith) in
    elim c.if-is_silent.branch [
      | then-is_silent w ↦
          let here : is_silent heard i ≡ true = sym told ∙ w.if-is_silent.true in
          let gone : w.bury.new.tables ≡ without_dead now i =
          w.bury.ensures ∙ ap (without_dead now) c.new-worker.ensures in
          rw (w.tables-is, gone) (record {
            same = length_death now.workers i ∙ was.same;
            later = λ v past. silent_later now.workers i v (λ e. omega (arith, e, past))
                ∙ was.later v (omega (arith, past));
            rest = sym (step_next without_dead now (is_silent heard) i n inside here) ∙ was.rest;
          })
      | else-is_silent w ↦
          let here : is_silent heard i ≡ false = sym told ∙ w.if-is_silent.false in
          rw w.tables-is (record {
            same = was.same;
            later = λ v past. was.later v (omega (arith, past));
            rest = sym (step_past without_dead now (is_silent heard) i n inside here) ∙ was.rest;
          })
    ]

pub returns : goal.returns
returns c =
    let i = c.loop-number.number in
    let heard = c.hear.new.workers in
    let n = length heard.each in
    let none : n - i ≡ 0 =
    omega (arith, c.loop-number-test.false, ap length c.workers-number-end.ensures.value) in
    sym (ap (λ (m : ℕ). fold without_dead c.loop-number.tables
    (filter (is_silent heard) (range_with_len i m))) none)
    ∙ c.loop-number.invariant.rest
    ∙ ap (λ (t : Workers). fold without_dead (record { workers = t; holders = c.args.tables.now.holders })
    (filter (is_silent t) (range_with_len 0 (length t.each)))) c.hear.ensures
