use Rattle.std.proofs.Common.{◌≡◌, ◌≤◌, length, take}
use Rattle.report_lines.specs.Reports.{report_bytes}
use Rattle.job_play.specs.Given.{HoldsRuns}
use Rattle.job_play.specs.Pasts.{past_at}
use Rattle.job_play.specs.Playing.{PerformedAll}
use Rattle.job_play.proofs.player.perform_all.Given as goal

abbrev pub invariant-loop-command : goal.invariant-loop-command
invariant-loop-command g l =
    let names = l.script.names in
    record {
      setup : l.master.setup ≡ l.initial.master.setup;
      given : HoldsRuns l.given l.master;
      seen : l.lines.turns.seen ≤ length l.master.history;
      performed : PerformedAll names l.script.target l.initial.master (take l.command-index l.command-items)
          (report_bytes names.splits names.workers (past_at l.initial.master l.script.target) l.initial.lines)
          (report_bytes names.splits names.workers (past_at l.master l.script.target) l.lines) l.master;
    }
