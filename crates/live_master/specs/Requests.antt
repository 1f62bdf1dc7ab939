-- The words that a session understands and no script has, and the answers to the words that ask.
use Rattle.std.specs.Prelude.{ℕ, ◌≡◌, ◌⊎◌, ◌++◌, List, Option, Some, None, codes}
use Rattle.text_lines.specs.Texts.{Line}
use Rattle.master_state.specs.States.{State}
use Rattle.master_state.specs.declared.answers.Why.TheVariants.{NotReady}
use Rattle.price_certificate.specs.Certificate.{Certifies, Claim, claim}
use Rattle.report_lines.specs.Lines.{ignored_line}
use Rattle.report_lines.specs.Standing.{open_part_lines, open_split_lines, output_lines, workers_lines}
use Rattle.script_text.specs.declared.script.Names.{Names}
use Rattle.text_lines.specs.declared.fault.Fault.TheVariants.{TooLong}
use Rattle.wave_text.specs.Told.{TellsWave}
use Rattle.live_master.specs.Refusals.{refusal_line}
use Rattle.live_master.specs.declared.requests.Request.{Request}
use Rattle.live_master.specs.declared.requests.Request.TheVariants as request

-- a request is a word that stands alone on its line
abbrev pub word_of : Request → List ℕ
word_of request.Workers = codes "workers"
word_of request.Open = codes "open"
word_of request.Outputs = codes "outputs"
word_of request.Audit = codes "audit"
word_of request.Commit = codes "commit"
word_of request.Drop = codes "drop"

abbrev pub IsRequest : Line → Type 0
IsRequest line = (asked : Request) × (line ≡ word_of asked)

-- the text is one to check, of the claim's problem, starts and prices, and a check certifies it
pub record IsAuditOf (shown : Claim) (text : List ℕ) : Type 0 where
  pub told : TellsWave text shown.wave shown.starts shown.prices
  pub certified : Certifies (claim told.read.problem told.read.plan.starts told.read.prices)

-- the last wave as a text to check, if there was one; or its text would be too long
abbrev pub AnswersAudit : Option Claim → List ℕ → Type 0
AnswersAudit None out = out ≡ ignored_line NotReady
AnswersAudit (Some last) out = IsAuditOf last out ⊎ (out ≡ refusal_line TooLong)

-- the workers; the splits and parts that are not done; where the outputs of the done splits are; the last
-- wave
abbrev pub AnswersRequest : Names → State → Option Claim → Request → List ℕ → Type 0
AnswersRequest names s last request.Workers out = out ≡ workers_lines names.workers s.workers
AnswersRequest names s last request.Open out =
    out ≡ open_split_lines names.splits names.workers s.splits ++ open_part_lines names.workers s.parts
AnswersRequest names s last request.Outputs out = out ≡ output_lines names.splits names.workers s.splits
AnswersRequest names s last request.Audit out = AnswersAudit last out
AnswersRequest names s last request.Commit out = ⊥
AnswersRequest names s last request.Drop out = ⊥
