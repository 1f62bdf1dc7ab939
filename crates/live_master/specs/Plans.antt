-- A plan of the client's own: its lines, and the word that commits it.
use Rattle.std.specs.Prelude.{ℕ, ◌≡◌, ◌⊎◌, ◌++◌, ◌<◌, List, Option, Ok, Err, length}
use Rattle.std.specs.declared.result.Result.{Result}
use Rattle.text_lines.specs.Texts.{Line}
use Rattle.text_lines.specs.declared.fault.Fault.{Fault}
use Rattle.text_lines.specs.declared.fault.Fault.TheVariants.{Misplaced, SecondEntry}
use Rattle.text_lines.specs.WaveLine.{wave_line}
use Rattle.line_shapes.specs.Lines.{Statement}
use Rattle.line_rules.specs.Faults.{IsLeastOf}
use Rattle.line_rules.specs.Known.{Known}
use Rattle.line_rules.specs.Reading.{IsFitLine}
use Rattle.line_rules.specs.Texts.{LineHas}
use Rattle.line_rules.specs.declared.purpose.Purpose.TheVariants.{Checking}
use Rattle.wave_problem.specs.Assignment.{pairs_of}
use Rattle.price_certificate.specs.declared.Condition.{Condition}
use Rattle.plan_text.specs.Report.{refused_line}
use Rattle.master_state.specs.Jobs.{AnswersCommit, Job}
use Rattle.master_state.specs.declared.answers.CommitError.{CommitError}
use Rattle.master_state.specs.declared.answers.CommitError.TheVariants as commit
use Rattle.master_state.specs.declared.answers.Wave.{Wave}
use Rattle.master_state.specs.declared.answers.Why.TheVariants.{HistoryFull}
use Rattle.report_lines.specs.Lines.{accepted_line, ignored_line}
use Rattle.script_text.specs.declared.script.Names.{Names}
use Rattle.plan_draft.specs.Drafts.{DraftView, IsPriced, IsSaid, prices_said}
use Rattle.job_play.specs.Reports.{started_lines}

-- ---- its lines

-- what is known of a line of a plan: the head is that of a text to check, too
abbrev pub planning : Known → Known
planning k = record k { purpose = Checking }

-- the line may not stand among commands, so it is read as a line of a plan
abbrev pub IsNoCommand : Known → Line → Type 0
IsNoCommand k line = IsLeastOf (LineHas k line) Misplaced

-- it is a line of a plan without a fault
pub record IsPlanLine (k : Known) (line : Line) (s : Statement) : Type 0 where
  pub short : length line < 524288
  pub no_command : IsNoCommand k line
  pub fit : IsFitLine (planning k) line s

-- the fault of a line of a plan, where this was said before: by the rules of texts to check
abbrev pub IsPlanFault : Known → Names → DraftView → Line → Fault → Type 0
IsPlanFault k names draft line fault = IsLeastOf (LineHas (planning k) line) fault
    ⊎ ((fault ≡ SecondEntry) × (s : Statement) × IsFitLine (planning k) line s × IsSaid names draft s)

-- ---- its commit

-- the lines of a wave with these starts
abbrev pub wave_lines : Names → List (Option ℕ) → Wave → List ℕ
wave_lines names starts wave = accepted_line wave.place ++ wave_line wave.count wave.cost
    ++ started_lines names wave.first (pairs_of starts)

-- a commit is answered as a wave, or by the reason why it was ignored or the first condition that fails
abbrev pub TellsCommit : Names → List (Option ℕ) → Result Wave CommitError → List ℕ → Type 0
TellsCommit names starts (Ok wave) out = out ≡ wave_lines names starts wave
TellsCommit names starts (Err commit.HistoryFull) out = out ≡ ignored_line HistoryFull
TellsCommit names starts (Err (commit.Stale c)) out = out ≡ refused_line names.splits names.workers c
TellsCommit names starts (Err commit.Memory) out = ⊥

-- a plan that was said whole is committed, and told
pub record CommitsPlan (names : Names) (draft : DraftView) (old : Job) (result : Result Wave CommitError)
    (out : List ℕ) (new : Job) : Type 0 where
  pub priced : IsPriced draft
  pub answers : AnswersCommit old draft.starts (prices_said draft) result new
  pub told : TellsCommit names draft.starts result out

-- the answers to a commit that starts nothing
abbrev pub StartsNothing : Names → List ℕ → Type 0
StartsNothing names answer = (answer ≡ ignored_line HistoryFull)
    ⊎ ((c : Condition) × (answer ≡ refused_line names.splits names.workers c))
