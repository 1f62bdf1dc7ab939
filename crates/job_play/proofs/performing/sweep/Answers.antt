use Rattle.std.proofs.Common.{◌≡◌, ◌∙◌, ◌++◌, length, ap, arith, string_bytes}
use Rattle.std.proofs.lemmas.Grind.{common_steps}
use Rattle.std.proofs.lemmas.Result.{on_ok_weaker}
use Rattle.report_lines.specs.Lines.{dead_lines}
use Rattle.job_play.specs.Reports.{counts_for}
use Rattle.job_play.proofs.Writing.{sweep_accepted, sweep_ignored}
use Rattle.job_play.proofs.performing.sweep.Goals as goal

pub returns-in-Accepted : goal.returns-in-Accepted
returns-in-Accepted c =
    let own = counts_for (length c.args.master.now.setup.cluster.slots) c.args.counts.now in
    let counts : c.deref.result.now ≡ own = grind (arith, common_steps) in
    let told = rw c.in-Accepted.is at (rw counts at c.sweep.ensures.answer) in
    on_ok_weaker c.add_dead.result
    (λ next. sweep_accepted c.args.names.now c.args.master.now c.sweep.new.self own c.sweep.new.dead.items
    c.in-Accepted.place (string_bytes c.args.lines.now) (string_bytes c.add_accepted.new.lines)
    (string_bytes c.add_dead.new.lines) told c.in_ok-add_accepted-in-Accepted.ensures
    (next
    ∙ ap (λ those. string_bytes c.add_accepted.new.lines ++ dead_lines c.args.names.now.workers those)
    c.as_slice.ensures.value))
    c.add_dead.ensures

pub returns : goal.returns
returns c =
    let own = counts_for (length c.args.master.now.setup.cluster.slots) c.args.counts.now in
    let counts : c.deref.result.now ≡ own = grind (arith, common_steps) in
    let told = rw c.in-Ignored.is at (rw counts at c.sweep.ensures.answer) in
    on_ok_weaker c.add_ignored.result
    (λ next. sweep_ignored c.args.names.now c.args.master.now c.sweep.new.self own c.sweep.new.dead.items
    c.in-Ignored.why (string_bytes c.args.lines.now) (string_bytes c.add_ignored.new.lines) told next)
    c.add_ignored.ensures
