-- What the report of a script may be. A relation: which best wave is started stays free.
use Rattle.std.specs.Prelude.{ℕ, ◌≡◌, ◌+◌, ◌-◌, true, false, List, [], ◌∷◌, ◌++◌, length}
use Rattle.std.specs.Prelude.{replicate, take, Option, Some, None}
use Rattle.node_ids.specs.Sets.{row_of_all}
use Rattle.wave_problem.specs.Assignment.{IsBest, pairs_of, total}
use Rattle.text_lines.specs.Texts.{Word}
use Rattle.word_map.specs.Texts.{SplitDocuments}
use Rattle.word_map.specs.Entries.{EntryView}
use Rattle.word_map.specs.Runs.{MapView}
use Rattle.shuffle_reduce.specs.Merged.{PartView, AreSameTexts}
use Rattle.shuffle_reduce.specs.Indexed.{IsIndexOf}
use Rattle.block_map.specs.declared.CopyOrder.{CopyOrder}
use Rattle.block_map.specs.Copies.{AreCopies, holdings}
use Rattle.master_state.specs.declared.answers.Answer.TheVariants as answer
use Rattle.master_state.specs.declared.answers.Wave.{Wave}
use Rattle.master_state.specs.declared.answers.Why.TheVariants.{OldAttempt}
use Rattle.master_state.specs.declared.states.Start.{Start}
use Rattle.master_state.specs.declared.states.Work.{Work}
use Rattle.master_state.specs.declared.states.Work.TheVariants as work
use Rattle.master_state.specs.States.{Setup, next_attempt, opening, start_of}
use Rattle.master_state.specs.Tests.{all_parts_done, next_part, next_worker}
use Rattle.master_state.specs.Refusals.{Call, MapDone, MapFailed, Withdraw, Die, Join, Add, Lose, Sweep}
use Rattle.master_state.specs.Refusals.{ReduceStart, PartDone, PartFailed, Backup, has_no_room, split_text}
use Rattle.master_state.specs.Steps.{AreHeads, IsLegal, problem_of, with_places}
use Rattle.master_state.specs.Jobs.{Job, Answers, IsCommitted, IsCommittedAhead, IsKept, died_in, Plain}
use Rattle.script_text.specs.Commands.{IsKnownIn}
use Rattle.script_text.specs.declared.script.Names.{Names}
use Rattle.script_text.specs.declared.script.Script.{Script}
use Rattle.script_text.specs.declared.script.Command.{Command}
use Rattle.script_text.specs.declared.script.Command.TheVariants as command
use Rattle.report_lines.specs.Lines.{accepted_line, ahead_line, ignored_line, queued_line, started_line}
use Rattle.text_lines.specs.WaveLine.{wave_line}
use Rattle.report_lines.specs.Lines.{backup_line, reduce_line, dead_lines, copy_lines, index_lines}
use Rattle.report_lines.specs.Lines.{stuck_lines}
use Rattle.job_play.specs.declared.player.PlayEnd.{PlayEnd}
use Rattle.job_play.specs.declared.player.PlayEnd.TheVariants as finish

-- the line of an answer, and what follows it where the call was accepted
abbrev pub told : Plain → List ℕ → List ℕ
told (answer.Accepted place rest) after = accepted_line place ++ after
told (answer.Ignored why rest) after = ignored_line why

-- the call is answered as the machine says, and told so
pub record IsTold (old : Job) (call : Call) (after : Plain → List ℕ) (out : List ℕ)
    (new : Job) : Type 0 where
  pub answer : Plain
  pub answers : Answers old call answer new
  pub out_is : out ≡ told answer (after answer)

-- no line follows that of the answer
abbrev pub alone : Plain → List ℕ
alone answer = []

-- the attempt was never started
pub record IsUnknown (old : Job) (out : List ℕ) (new : Job) : Type 0 where
  pub out_is : out ≡ ignored_line OldAttempt
  pub unchanged : new ≡ old

-- ---- waves

-- the starts, numbered from this attempt on
abbrev pub started_lines : Names → ℕ → List (ℕ × ℕ) → List ℕ
started_lines names attempt [] = []
started_lines names attempt (pair ∷ pairs) =
    started_line names.splits names.workers attempt pair.0 pair.1 ++ started_lines names (attempt + 1) pairs

-- some best plan is started, and the lines tell its count, its cost and each of its starts
pub record Waves (names : Names) (old : Job) (out : List ℕ) (new : Job) : Type 0 where
  pub plan : List (Option ℕ)
  pub wave : Wave
  pub committed : IsCommitted old plan wave new
  pub out_is : out ≡ accepted_line wave.place ++ wave_line wave.count wave.cost
      ++ started_lines names wave.first (pairs_of plan)

-- how many splits a plan onto these places has, at which byte-distance
abbrev pub queued_of : Job → List ℕ → List (Option ℕ) → List ℕ
queued_of old asked plan =
    queued_line (length (pairs_of plan))
    (total (with_places asked (problem_of old.setup old.state)) (pairs_of plan))

-- the heads of some best plan onto these places are started, and the lines tell their count and cost, those
-- of the whole plan, and each of the starts
pub record Aheads (names : Names) (asked : List ℕ) (old : Job) (out : List ℕ) (new : Job) : Type 0 where
  pub plan : List (Option ℕ)
  pub starts : List (Option ℕ)
  pub wave : Wave
  pub committed : IsCommittedAhead old asked plan starts wave new
  pub out_is : out ≡ accepted_line wave.place ++ ahead_line wave.count wave.cost ++ queued_of old asked plan
      ++ started_lines names wave.first (pairs_of starts)

-- ---- completions and failures

-- the result that is handed in is made from the text of the attempt's split
pub record DoesSplit (old : Job) (attempt split : ℕ) (out : List ℕ) (new : Job) : Type 0 where
  pub result : MapView
  pub text : result.text ≡ split_text old.setup split
  pub parts : result.parts ≡ old.setup.cluster.parts
  pub is_told : IsTold old (MapDone attempt result) alone out new

-- or it is merged from a run of each text, for the attempt's part
pub record DoesPart (old : Job) (attempt part : ℕ) (out : List ℕ) (new : Job) : Type 0 where
  pub result : PartView
  pub part_is : result.part ≡ part
  pub parts : result.parts ≡ old.setup.cluster.parts
  pub texts : AreSameTexts result.texts old.setup.cluster.texts
  pub is_told : IsTold old (PartDone attempt result) alone out new

abbrev pub DoesWork : Job → ℕ → Work → List ℕ → Job → Type 0
DoesWork old a (work.Split split) out new = DoesSplit old a split out new
DoesWork old a (work.Part part) out new = DoesPart old a part out new

abbrev pub Does : Job → ℕ → Option Start → List ℕ → Job → Type 0
Does old a None out new = IsUnknown old out new
Does old a (Some start) out new = DoesWork old a start.work out new

abbrev pub FailsWork : Job → ℕ → Work → List ℕ → Job → Type 0
FailsWork old a (work.Split split) out new = IsTold old (MapFailed a) alone out new
FailsWork old a (work.Part part) out new = IsTold old (PartFailed a) alone out new

abbrev pub FailsAttempt : Job → ℕ → Option Start → List ℕ → Job → Type 0
FailsAttempt old a None out new = IsUnknown old out new
FailsAttempt old a (Some start) out new = FailsWork old a start.work out new

-- ---- the other commands

-- a count for each of so many workers: 0 for a worker without one; counts past the last worker are left out
abbrev pub counts_for : ℕ → List ℕ → List ℕ
counts_for workers counts = take workers counts ++ replicate (workers - length counts) 0

-- those who died, by number
abbrev pub deaths : Names → Job → List ℕ → Plain → List ℕ
deaths names old counts answer = dead_lines names.workers (died_in old counts answer)

pub record Copies (names : Names) (target : ℕ) (old : Job) (out : List ℕ) (new : Job) : Type 0 where
  pub orders : List CopyOrder
  pub are_copies : AreCopies (holdings old.state.workers old.setup.cluster.tree old.state.holders target)
      orders
  pub out_is : out ≡ copy_lines names.splits names.workers orders
  pub unchanged : new ≡ old

-- in the old state the command is answered by these lines, and leads to the new one
abbrev pub Performs : Names → ℕ → Job → Command → List ℕ → Job → Type 0
Performs names target old command.Wave out new = Waves names old out new
Performs names target old (command.Ahead places) out new = Aheads names places.items old out new
Performs names target old (command.Done a) out new = Does old a (start_of old.state a) out new
Performs names target old (command.Fail a) out new = FailsAttempt old a (start_of old.state a) out new
Performs names target old (command.Withdraw a) out new = IsTold old (Withdraw a) alone out new
Performs names target old (command.Backup s w) out new =
    IsTold old (Backup s w) (λ _. backup_line names.splits names.workers (next_attempt old.state) s w) out new
Performs names target old (command.Die w) out new = IsTold old (Die w) alone out new
Performs names target old (command.Join w splits) out new =
    IsTold old (Join w (row_of_all splits.items)) alone out new
Performs names target old (command.Add s w) out new = IsTold old (Add s w) alone out new
Performs names target old (command.Lose s w) out new = IsTold old (Lose s w) alone out new
Performs names target old (command.Sweep counts) out new =
    let swept = counts_for (length old.setup.cluster.slots) counts.items in
    IsTold old (Sweep swept) (deaths names old swept) out new
Performs names target old command.Reduce out new =
    IsTold old ReduceStart
    (λ _. reduce_line names.workers (next_attempt old.state) (next_part old.state) (next_worker old.state))
    out new
Performs names target old command.Copies out new = Copies names target old out new

-- one command after another
abbrev pub PerformsAll : Names → ℕ → Job → List Command → List ℕ → Job → Type 0
PerformsAll names target old [] out new = (out ≡ []) × (new ≡ old)
PerformsAll names target old (c ∷ commands) out new =
    (mid : Job) × (front : List ℕ) × (back : List ℕ)
    × Performs names target old c front mid × PerformsAll names target mid commands back new
    × (out ≡ front ++ back)

-- the lines are those of the index of these texts
abbrev pub TellsIndex : List SplitDocuments → List Word → List ℕ → Type 0
TellsIndex texts documents out =
    (entries : List EntryView) × IsIndexOf texts entries × (out ≡ index_lines documents entries)

-- the lines after the last command: the index of the documents where every part is done, else the open splits
abbrev pub EndsReport : Names → Job → PlayEnd → List ℕ → Type 0
EndsReport names last finish.Done out =
    (all_parts_done last.state ≡ true) × TellsIndex last.setup.cluster.texts names.documents out
EndsReport names last finish.Stuck out =
    (all_parts_done last.state ≡ false) × (out ≡ stuck_lines names.splits last.state.splits)

-- a master of which nothing has happened
abbrev pub opening_job : Setup → Job
opening_job setup = record { setup = setup; history = []; state = opening setup; results = [] }

-- the commands are answered by these lines, and lead to what a master keeps: a legal history, and the results
-- of the done parts
pub record IsReport (setup : Setup) (script : Script) (finish : PlayEnd) (out : List ℕ) : Type 0 where
  pub last : Job
  pub answers : List ℕ
  pub ending : List ℕ
  pub given : last.setup ≡ setup
  pub kept : IsKept last
  pub performs : PerformsAll script.names script.target (opening_job setup) script.commands.items answers last
  pub ends : EndsReport script.names last finish ending
  pub out_is : out ≡ answers ++ ending

-- the command names workers and splits of the cluster of the job, and gives no more counts or places than
-- there may be
abbrev pub IsKnownCommand : Setup → Command → Type 0
IsKnownCommand setup c = IsKnownIn (length setup.cluster.slots) (length setup.cluster.splits) c

-- the count is the number of starts of some best plan, or of the heads of some best plan onto the queues
abbrev pub MayStart : Job → Command → ℕ → Type 0
MayStart old command.Wave count =
    (plan : List (Option ℕ)) × IsBest (problem_of old.setup old.state) (pairs_of plan)
    × (count ≡ length (pairs_of plan))
MayStart old (command.Ahead places) count =
    (plan : List (Option ℕ)) × (starts : List (Option ℕ))
    × IsBest (with_places places.items (problem_of old.setup old.state)) (pairs_of plan)
    × AreHeads (problem_of old.setup old.state).workers plan starts × (count ≡ length (pairs_of starts))
MayStart old c count = ⊥

-- the state is one of a legal history, and the command may start more than the job has room for
pub record LacksRoom (old : Job) (c : Command) : Type 0 where
  pub legal : IsLegal old.setup old.history old.state
  pub count : ℕ
  pub may_start : MayStart old c count
  pub full : has_no_room old.setup old.state count ≡ true
