-- What a live master answers to a line, and what its answers are together.
use Rattle.std.specs.Prelude.{ℕ, ◌≡◌, ◌≢◌, ◌⊎◌, ◌≤◌, ◌<◌, ◌++◌, ◌∷◌, [], List, Option, Some, None, Ok, Err}
use Rattle.std.specs.Prelude.{Bool, IfSome, false, length, true}
use Rattle.std.specs.Option.{option_map}
use Rattle.std.specs.declared.result.Result.{Result}
use Rattle.text_lines.specs.Texts.{Line}
use Rattle.text_lines.specs.declared.fault.Fault.{Fault}
use Rattle.text_lines.specs.declared.fault.Fault.TheVariants.{Misplaced, NoPrice, TooLong}
use Rattle.line_shapes.specs.Lines.{Statement}
use Rattle.line_shapes.specs.declared.keyword.Keyword.TheVariants as keyword
use Rattle.line_rules.specs.Faults.{IsLeastOf}
use Rattle.line_rules.specs.Known.{Known}
use Rattle.line_rules.specs.Reading.{IsFitLine}
use Rattle.line_rules.specs.Texts.{LineHas}
use Rattle.line_talk.specs.Talks.{Said, heard}
use Rattle.line_talk.specs.declared.Turn.{Turn}
use Rattle.line_talk.specs.declared.Turn.TheVariants.{Last, More}
use Rattle.price_certificate.specs.Certificate.{Certifies, Claim, claim}
use Rattle.price_certificate.specs.PriceList.{PriceList}
use Rattle.master_state.specs.Jobs.{AnswersCommit, IsCommitted, Job, present}
use Rattle.master_state.specs.States.{Cluster, Setup}
use Rattle.master_state.specs.declared.answers.CommitError.{CommitError}
use Rattle.master_state.specs.declared.answers.Wave.{Wave}
use Rattle.master_state.specs.declared.answers.Why.TheVariants.{HistoryFull}
use Rattle.master_state.specs.declared.states.Limits.{Limits}
use Rattle.plan_text.specs.Tidy.{AreTidy}
use Rattle.plan_draft.specs.Drafts.{AreNamesOf, DraftView, IsPriced, IsSaid, empty_draft, prices_said, said}
use Rattle.report_lines.specs.Lines.{ignored_line}
use Rattle.script_text.specs.Commands.{SaysCommand}
use Rattle.script_text.specs.Ready.{AreFew, told_names}
use Rattle.script_text.specs.Scripts.{IsOpening}
use Rattle.script_text.specs.declared.script.Command.{Command}
use Rattle.script_text.specs.declared.script.Command.TheVariants as command
use Rattle.script_text.specs.declared.script.Names.{Names}
use Rattle.script_text.specs.declared.script.ScriptText.{ScriptText}
use Rattle.line_rules.specs.declared.purpose.Purpose.TheVariants.{Playing}
use Rattle.line_rules.specs.declared.section.Section.TheVariants.{Body}
use Rattle.job_play.specs.Given.{HoldsRuns}
use Rattle.job_play.specs.PlayAnswer.{declared_cluster}
use Rattle.job_play.specs.Reports.{EndsReport, LacksRoom, Performs, opening_job}
use Rattle.job_play.specs.declared.player.PlayEnd.{PlayEnd}
use Rattle.live_master.specs.Plans.{CommitsPlan, IsPlanFault, IsPlanLine, StartsNothing, TellsCommit}
use Rattle.live_master.specs.Plans.{wave_lines}
use Rattle.live_master.specs.Requests.{AnswersRequest, IsRequest, word_of}
use Rattle.live_master.specs.Refusals.{IsRefusal, refusal_line}
use Rattle.live_master.specs.declared.requests.Request.{Request}
use Rattle.live_master.specs.declared.requests.Request.TheVariants as request
use Rattle.live_master.specs.declared.serving.Audited.{Audited}
use Rattle.live_master.specs.declared.serving.Session.{Session}

-- ---- the master that is served

abbrev pub serving_room : Limits
serving_room = record { events = 1048576; attempts = 1000000; sweeps = 65536 }

abbrev pub served_on : Cluster → Setup
served_on cluster = record { cluster = cluster; limits = serving_room }

-- What the head says, and whether waves are kept for audits, which stay; the master's job, which goes on; the
-- last wave that was kept, with the problem that it found and the prices of its plan; and what was said of a
-- plan of the client's own.
pub record Live : Type 0 where
  pub known : Known
  pub names : Names
  pub target : ℕ
  pub audits : Bool
  pub job : Job
  pub last : Option Claim
  pub draft : DraftView

-- nothing is said of a plan
abbrev pub no_draft : Names → DraftView
no_draft names = empty_draft (length names.splits) (length names.workers)

-- a head with `begin` opens it, read with an `end` behind
pub record IsOpened (audits : Bool) (text : List ℕ) (live : Live) : Type 0 where
  pub read : ScriptText
  pub opening : IsOpening text read live.known
  pub names : live.names ≡ read.script.names
  pub target : live.target ≡ read.script.target
  pub audits_are : live.audits ≡ audits
  pub job : live.job ≡ opening_job (served_on (declared_cluster live.known))
  pub last : live.last ≡ None
  pub draft : live.draft ≡ no_draft live.names

-- the session names what the rows of the head declare, and the cluster has as many workers and splits as
-- names
pub record IsNamedBy (live : Live) : Type 0 where
  pub playing : live.known.purpose ≡ Playing
  pub body : live.known.section ≡ Body
  pub tidy : AreTidy live.known.rows
  pub told : live.names ≡ told_names live.known.rows
  pub few : AreFew live.names
  pub workers : length live.names.workers ≡ length live.job.setup.cluster.slots
  pub splits : length live.names.splits ≡ length live.job.setup.cluster.splits

abbrev pub claim_of : Audited → Claim
claim_of a = claim a.problem a.plan.starts a.prices

-- what a session is
abbrev pub live_of : Session → Live
live_of s = record {
  known = s.known;
  names = s.script.names;
  target = s.script.target;
  audits = s.audits;
  job = s.master;
  last = option_map claim_of s.last;
  draft = s.draft;
}

-- a session that can answer a line
pub record IsOpen (s : Session) : Type 0 where
  pub given : HoldsRuns s.given s.master
  pub named : IsNamedBy (live_of s)
  pub draft : AreNamesOf s.script.names s.draft
  pub certified : IfSome s.last (λ a. Certifies (claim_of a))

-- ---- one line

-- a wave or a plan ahead that may start more than there is room for is ignored for that
pub record IgnoresFull (old : Job) (c : Command) (out : List ℕ) (new : Job) : Type 0 where
  pub lacks : LacksRoom old c
  pub out_is : out ≡ ignored_line HistoryFull
  pub unchanged : new ≡ old

-- a command is answered as in a script, but for one whose starts have no room
abbrev pub PerformsLive : Names → ℕ → Job → Command → List ℕ → Job → Type 0
PerformsLive names target old c out new =
    Performs names target old c out new ⊎ IgnoresFull old c out new

-- a best wave is started, and is kept as the last one
pub record StartsWave (old : Live) (out : List ℕ) (new : Live) : Type 0 where
  pub audits : old.audits ≡ true
  pub shown : Claim
  pub found : shown ≡ present old.job shown.starts shown.prices
  pub certified : Certifies shown
  pub wave : Wave
  pub committed : IsCommitted old.job shown.starts wave new.job
  pub out_is : out ≡ wave_lines old.names shown.starts wave
  pub last : new.last ≡ Some shown

-- a command is performed: a wave that starts and is kept, a command whose starts have no room, or another one
abbrev pub PerformsIn : Live → Command → List ℕ → Live → Type 0
PerformsIn old c out new = ((c ≡ command.Wave) × StartsWave old out new)
    ⊎ ((IgnoresFull old.job c out new.job × (new.last ≡ old.last))
    ⊎ ((c ≡ command.Wave → old.audits ≡ false) × Performs old.names old.target old.job c out new.job
    × (new.last ≡ old.last)))

-- the line says a command, without a fault, and it is performed
pub record Tells (old : Live) (line : Line) (out : List ℕ) (new : Live) : Type 0 where
  pub short : length line < 524288
  pub statement : Statement
  pub command : Command
  pub fit : IsFitLine old.known line statement
  pub says : SaysCommand old.names statement command
  pub performs : PerformsIn old command out new
  pub head : new ≡ record old { job = new.job; last = new.last }

-- it is `end`: the index is told, or what is not done
pub record Ends (old : Live) (line : Line) (out : List ℕ) (new : Live) : Type 0 where
  pub statement : Statement
  pub finish : PlayEnd
  pub fit : IsFitLine old.known line statement
  pub is_end : statement.keyword ≡ keyword.End
  pub ends : EndsReport old.names old.job finish out
  pub unchanged : new ≡ old

-- the line says something of a plan, which is kept
pub record Drafts (old : Live) (line : Line) (out : List ℕ) (new : Live) : Type 0 where
  pub statement : Statement
  pub is_line : IsPlanLine old.known line statement
  pub fresh : IsSaid old.names old.draft statement → ⊥
  pub out_is : out ≡ []
  pub head : new ≡ record old { draft = said old.names old.draft statement }

-- the last wave after a commit that was answered so: this claim where waves are kept, else the one before
abbrev pub IsLastBy : Bool → Claim → Option Claim → Result Wave CommitError → Option Claim → Type 0
IsLastBy audits shown before (Ok wave) last =
    ((audits ≡ true) × (last ≡ Some shown)) ⊎ ((audits ≡ false) × (last ≡ before))
IsLastBy audits shown before (Err e) last = last ≡ before

-- the plan that was said is committed as a wave, or refused, and a new one may be said
pub record Commits (old : Live) (line : Line) (out : List ℕ) (new : Live) : Type 0 where
  pub line_is : line ≡ word_of request.Commit
  pub result : Result Wave CommitError
  pub commits : CommitsPlan old.names old.draft old.job result out new.job
  pub last : IsLastBy old.audits (present old.job old.draft.starts (prices_said old.draft)) old.last result
      new.last
  pub head : new ≡ record old { job = new.job; last = new.last; draft = no_draft old.names }

-- the plan lacks a price, and nothing changes
pub record LacksPrices (old : Live) (line : Line) (out : List ℕ) (new : Live) : Type 0 where
  pub line_is : line ≡ word_of request.Commit
  pub lacks : IsPriced old.draft → ⊥
  pub out_is : out ≡ refusal_line NoPrice
  pub unchanged : new ≡ old

-- what was said of a plan is dropped
pub record Drops (old : Live) (line : Line) (out : List ℕ) (new : Live) : Type 0 where
  pub line_is : line ≡ word_of request.Drop
  pub out_is : out ≡ []
  pub head : new ≡ record old { draft = no_draft old.names }

-- it asks: it is told how the master stands, or of its last wave, and nothing changes
pub record Asks (old : Live) (line : Line) (out : List ℕ) (new : Live) : Type 0 where
  pub request : Request
  pub line_is : line ≡ word_of request
  pub told : AnswersRequest old.names old.job.state old.last request out
  pub unchanged : new ≡ old

-- The fault of a line, by what the head and the lines of a plan say: a line of 524,288 bytes or more is too
-- long, of another one it is the least by the rules of texts. A line that may not stand among commands is
-- read as a line of a plan.
abbrev pub IsFaultOf : Live → Line → Fault → Type 0
IsFaultOf old line fault = ((524288 ≤ length line) × (fault ≡ TooLong))
    ⊎ (((length line < 524288) × (fault ≢ Misplaced) × IsLeastOf (LineHas old.known line) fault)
    ⊎ ((length line < 524288) × IsLeastOf (LineHas old.known line) Misplaced
    × IsPlanFault old.known old.names old.draft line fault))

-- it is no request and has a fault, which is told, and nothing changes
pub record Refuses (old : Live) (line : Line) (out : List ℕ) (new : Live) : Type 0 where
  pub no_request : ¬ (IsRequest line)
  pub fault : Fault
  pub is_fault : IsFaultOf old line fault
  pub out_is : out ≡ refusal_line fault
  pub unchanged : new ≡ old

-- a line that is no command
abbrev pub GoesOnAside : Live → Line → List ℕ → Live → Type 0
GoesOnAside old line out new = Asks old line out new
    ⊎ (Refuses old line out new ⊎ (Drafts old line out new
    ⊎ (LacksPrices old line out new ⊎ Drops old line out new)))

-- a line that is no `end`
abbrev pub GoesOn : Live → Line → List ℕ → Live → Type 0
GoesOn old line out new = Tells old line out new ⊎ (Commits old line out new ⊎ GoesOnAside old line out new)

-- a session hears a front of a long line alone, and goes on as by that front
abbrev pub GoesOnHearing : Live → Line → List ℕ → Live → Type 0
GoesOnHearing old line out new = GoesOn old (heard line) out new

-- `end` is the last line, and no other is
abbrev pub Replies : Live → Line → Turn → List ℕ → Live → Type 0
Replies old line More out new = GoesOn old line out new
Replies old line Last out new = Ends old line out new

-- ---- all lines

-- one command after another
abbrev pub PerformsAllLive : Names → ℕ → Job → List Command → List ℕ → Job → Type 0
PerformsAllLive names target old [] out new = (out ≡ []) × (new ≡ old)
PerformsAllLive names target old (c ∷ commands) out new =
    (mid : Job) × (front : List ℕ) × (back : List ℕ)
    × PerformsLive names target old c front mid × PerformsAllLive names target mid commands back new
    × (out ≡ front ++ back)

-- the line says the command, without a fault
pub record SaysLine (k : Known) (names : Names) (line : Line) (c : Command) : Type 0 where
  pub statement : Statement
  pub fit : IsFitLine k line statement
  pub says : SaysCommand names statement c

-- it says the command, or it commits a plan, which is a wave
abbrev pub TellsCommand : Known → Names → Line → Command → Type 0
TellsCommand k names line c = SaysLine k names line c ⊎ ((line ≡ word_of request.Commit) × (c ≡ command.Wave))

-- It tells the master nothing: it is refused, or a line of a plan, or a request, of which a commit starts
-- nothing.
abbrev pub IsAside : Known → Names → Line → List ℕ → Type 0
IsAside k names line answer = IsRefusal answer ⊎ (((s : Statement) × IsPlanLine k line s)
    ⊎ ((asked : Request) × (line ≡ word_of asked) × (asked ≡ request.Commit → StartsNothing names answer)))

-- the commands of the lines that told the master something, and the answers to them
abbrev pub AreToldIn : Known → Names → Said → List Command → List ℕ → Type 0
AreToldIn k names [] commands report = (commands ≡ []) × (report ≡ [])
AreToldIn k names (turn ∷ said) commands report =
    (IsAside k names turn.0 turn.1 × AreToldIn k names said commands report)
    ⊎ ((c : Command) × (others : List Command) × (rest : List ℕ) × TellsCommand k names turn.0 c
    × (commands ≡ c ∷ others) × (report ≡ turn.1 ++ rest) × AreToldIn k names said others rest)

-- what was said is a script, and its report: commands that are performed one after another
pub record IsSession (old : Live) (said : Said) (new : Live) : Type 0 where
  pub commands : List Command
  pub report : List ℕ
  pub told : AreToldIn old.known old.names said commands report
  pub performs : PerformsAllLive old.names old.target old.job commands report new.job
  pub head : new ≡ record old { job = new.job; last = new.last; draft = new.draft }

-- ---- what serves private clauses alone

-- what a line makes a session write and do, if it has the statement
pub record Obeys (old : Session) (statement : Statement) (turn : Turn) (before now : List ℕ) (new : Session)
    : Type 0 where
  pub out : List ℕ
  pub written : now ≡ before ++ out
  pub replies : (line : Line) → IsFitLine old.known line statement → length line < 524288
      → Replies (live_of old) line turn out (live_of new)

-- what a line makes it write and do
pub record Hears (old : Session) (line : Line) (turn : Turn) (before now : List ℕ) (new : Session)
    : Type 0 where
  pub out : List ℕ
  pub written : now ≡ before ++ out
  pub replies : Replies (live_of old) line turn out (live_of new)

-- the command is performed, or has no room, and the lines tell it
pub record PerformedLive (old : Session) (c : Command) (before now : List ℕ) (new : Session) : Type 0 where
  pub out : List ℕ
  pub written : now ≡ before ++ out
  pub performs : PerformsIn (live_of old) c out (live_of new)
  pub head : live_of new ≡ record (live_of old) { job = new.master; last = option_map claim_of new.last }

-- the plan is committed, or is not, and the lines tell which
pub record CommittedPlan (old : Session) (starts : List (Option ℕ)) (prices : PriceList) (before now : List ℕ)
    (new : Session) : Type 0 where
  pub result : Result Wave CommitError
  pub out : List ℕ
  pub answers : AnswersCommit old.master starts prices result new.master
  pub told : TellsCommit old.script.names starts result out
  pub written : now ≡ before ++ out
  pub last : IsLastBy old.audits (present old.master starts prices) (option_map claim_of old.last) result
      (option_map claim_of new.last)
  pub head : live_of new ≡ record (live_of old) { job = new.master; last = option_map claim_of new.last }

-- what a commit makes a session write and do
pub record Committed (old : Session) (before now : List ℕ) (new : Session) : Type 0 where
  pub out : List ℕ
  pub written : now ≡ before ++ out
  pub goes_on : (line : Line) → line ≡ word_of request.Commit
      → Commits (live_of old) line out (live_of new) ⊎ LacksPrices (live_of old) line out (live_of new)

-- the answer to a request is written
pub record Told (s : Session) (request : Request) (before now : List ℕ) : Type 0 where
  pub out : List ℕ
  pub written : now ≡ before ++ out
  pub told : AnswersRequest s.script.names s.master.state (option_map claim_of s.last) request out
