use Rattle.std.proofs.Common.{◌∙◌, ap, refl, string_bytes, subst}
use Rattle.report_lines.specs.Past.{PastView}
use Rattle.report_lines.specs.Reports.{report_bytes, turns_lines}
use Rattle.master_state.specs.Jobs.{Job}
use Rattle.job_play.specs.Pasts.{past_at}
use Rattle.job_play.specs.Playing.{PerformedAll}
use Rattle.job_play.specs.Rooms.{setup_for}
use Rattle.job_play.proofs.Made.{report_is}
use Rattle.job_play.proofs.player.report_of.Goals as goal

pub returns-clause-report : goal.returns-clause-report
returns-clause-report g c =
    let script = c.args.script.now in
    let names = script.names in
    let first = past_at c.args.master script.target in
    let before = report_bytes names.splits names.workers first c.new-lines.result in
    let lines = c.perform_all.new.lines in
    let last = c.perform_all.new.master in
    let past = past_at last script.target in
    let mid = report_bytes names.splits names.workers past lines in
    let commands = script.commands.items in
    let From : Job → Type 0 = λ job. PerformedAll names script.target job commands before mid last in
    let performed = subst From c.requires.opening c.in_ok-perform_all.ensures.ok in
    let written = c.in_ok-lines.ensures
    ∙ ap (λ (p : PastView).
    report_bytes names.splits names.workers p (record lines { last = c.add_end.new.lines }))
    c.in_ok-past.ensures in
    report_is (setup_for c.args.master.setup.cluster script) script c.in_ok-end.end last before mid
    (turns_lines names.splits names.workers past lines.turns.each)
    (string_bytes lines.last) _ _ performed (c.new-lines.ensures.lines names.splits names.workers first) refl
    c.in_ok-end.ensures written
    (c.in_ok-perform_all.ensures.setup ∙ ap (λ (job : Job). job.setup) c.requires.opening) c.is_kept.ensures
