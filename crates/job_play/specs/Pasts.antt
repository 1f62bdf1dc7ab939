-- The past of a job, of which a report tells its copies.
use Rattle.std.specs.Prelude.{ℕ}
use Rattle.master_state.specs.Jobs.{Job}
use Rattle.report_lines.specs.Past.{PastView, past_of}

-- all that has happened to it, where each split is to have so many replicas
abbrev pub past_at : Job → ℕ → PastView
past_at job target = past_of job.setup target job.history job.state.sweeps
