-- What a session takes of its reader and writes, from its head on.
use Rattle.std.specs.Prelude.{ℕ, ◌≡◌, ◌≢◌, ◌⊎◌, ◌++◌, [], Bool, List, Option, Ok, Err, codes, take, true, false}
use Rattle.std.specs.Io.KnownBytes.{Appends, Consumes, Keeps}
use Rattle.std.specs.declared.result.Result.{Result}
use Rattle.text_lines.specs.Streams.{AppendsFront, most_read}
use Rattle.text_lines.specs.declared.fault.Fault.{Fault}
use Rattle.text_lines.specs.declared.fault.Fault.TheVariants.{Misplaced, NoFeed}
use Rattle.command_runner.specs.declared.tool_error.ToolError.{ToolError}
use Rattle.command_runner.specs.declared.tool_error.ToolError.TheVariants as tool
use Rattle.line_rules.specs.Faulty.{IsFaulty}
use Rattle.line_rules.specs.declared.purpose.Purpose.TheVariants.{Playing}
use Rattle.line_talk.specs.Talks.{Talked, closed}
use Rattle.line_talk.specs.declared.TalkEnd.{TalkEnd}
use Rattle.line_talk.specs.declared.TalkEnd.TheVariants as talk
use Rattle.line_talk.specs.declared.Turn.{Turn}
use Rattle.text_lines.specs.Texts.{Line}
use Rattle.text_lines.specs.declared.fault.TextFault.{TextFault}
use Rattle.master_state.specs.Jobs.{Job}
use Rattle.master_state.specs.Tests.{all_parts_done}
use Rattle.live_master.specs.Refusals.{refusal_line}
use Rattle.live_master.specs.Serving.{IsOpened, Replies, live_of}
use Rattle.job_play.specs.declared.player.PlayEnd.{PlayEnd}
use Rattle.job_play.specs.declared.player.PlayEnd.TheVariants as finish
use Rattle.live_master.specs.declared.serving.HeadLine.{HeadLine}
use Rattle.live_master.specs.declared.serving.HeadLine.TheVariants.{Last}
use Rattle.live_master.specs.declared.serving.Session.{Session}

-- ---- the head

-- a head was taken, and is read as this text: with an `end` behind it, where a session may begin
pub record IsHead (unread left : Option (List ℕ)) (text : List ℕ) : Type 0 where
  pub head : List ℕ
  pub consumed : Consumes unread left head
  pub text_is : (text ≡ take most_read head) ⊎ (text ≡ head ++ codes "end\n")

-- ---- the lines

-- an answer that was written whole, or not at all, or in part
abbrev pub Writes : {T : Type 0} → Option (List ℕ) → Option (List ℕ) → List ℕ → Result T ToolError → Type 0
Writes old new text (Ok done) = Appends old new text
Writes old new text (Err tool.Write) = AppendsFront old new text
Writes old new text (Err tool.Memory) = Keeps old new
Writes old new text (Err why) = ⊥

-- the fault of an input that ends before `end` was told, or a front of it
abbrev pub CutsOff : Option (List ℕ) → Option (List ℕ) → Fault → ToolError → Type 0
CutsOff old new fault (tool.Text told) = (told ≡ record { line = 0; number = fault })
    × Appends old new (closed (refusal_line fault))
CutsOff old new fault tool.Write = AppendsFront old new (closed (refusal_line fault))
CutsOff old new fault tool.Memory = Keeps old new
CutsOff old new fault why = ⊥

-- what a session answers to a line
abbrev pub RepliesIn : Session → Line → Turn → List ℕ → Session → Type 0
RepliesIn old line turn out new = Replies (live_of old) line turn out (live_of new)

abbrev pub IsEndOf : PlayEnd → Job → Type 0
IsEndOf finish.Done last = all_parts_done last.state ≡ true
IsEndOf finish.Stuck last = all_parts_done last.state ≡ false

-- which fault is told of an input that ends so
abbrev pub EndsWith : TalkEnd → Fault → Type 0
EndsWith talk.Told fault = ⊥
EndsWith talk.Over fault = fault ≡ Misplaced
EndsWith talk.Unfed fault = fault ≡ NoFeed

-- the input ended before `end`, when these lines had been answered
pub record IsCutOff (unread left old new : Option (List ℕ)) (before after : Session) (why : ToolError) : Type 0 where
  pub by : Option (List ℕ)
  pub end : TalkEnd
  pub fault : Fault
  pub ends_with : EndsWith end fault
  pub talked : Talked RepliesIn unread left old by before after (Ok end)
  pub told : CutsOff by new fault why

-- the session answered each line up to `end`; or the talk stopped, and it had answered the lines before
abbrev pub ServesLines : Option (List ℕ) → Option (List ℕ) → Option (List ℕ) → Option (List ℕ) → Session → Session
    → Result PlayEnd ToolError → Type 0
ServesLines unread left old new before after (Ok end) =
    Talked RepliesIn unread left old new before after (Ok talk.Told) × IsEndOf end after.master
ServesLines unread left old new before after (Err why) =
    Talked RepliesIn unread left old new before after (Err why) ⊎ IsCutOff unread left old new before after why

-- ---- a whole session

-- a session was opened by a head, and said so by an empty line
pub record IsGreeted (audits : Bool) (unread at old by : Option (List ℕ)) (first : Session) : Type 0 where
  pub text : List ℕ
  pub head : IsHead unread at text
  pub opened : IsOpened audits text (live_of first)
  pub greeted : Appends old by (closed [])

-- and was told lines
pub record IsServed (audits : Bool) (unread left old new : Option (List ℕ)) (result : Result PlayEnd ToolError)
    : Type 0 where
  pub at : Option (List ℕ)
  pub by : Option (List ℕ)
  pub first : Session
  pub last : Session
  pub greeted : IsGreeted audits unread at old by first
  pub lines : ServesLines at left by new first last result

-- the head has this fault, which was told
pub record IsRefused (unread left old new : Option (List ℕ)) (fault : TextFault) : Type 0 where
  pub text : List ℕ
  pub line : List ℕ
  pub head : IsHead unread left text
  pub faulty : IsFaulty Playing text fault line
  pub told : Appends old new (closed line)

-- no session was opened: its head has a fault, or nothing was written, or a front of the first answer
abbrev pub IsUnopened : Option (List ℕ) → Option (List ℕ) → Option (List ℕ) → Option (List ℕ)
    → Result PlayEnd ToolError → Type 0
IsUnopened unread left old new (Ok end) = ⊥
IsUnopened unread left old new (Err (tool.Text fault)) = IsRefused unread left old new fault
IsUnopened unread left old new (Err tool.Write) = (line : List ℕ) × AppendsFront old new (closed line)
IsUnopened unread left old new (Err why) = Keeps old new

-- waves are kept for audits, or are not
abbrev pub Serves : Bool → Option (List ℕ) → Option (List ℕ) → Option (List ℕ) → Option (List ℕ)
    → Result PlayEnd ToolError → Type 0
Serves audits unread left old new result =
    IsUnopened unread left old new result ⊎ IsServed audits unread left old new result

-- What follows serves private clauses alone.

-- a line more of a head was taken; it is whole unless it is the last
pub record TakesHeadLine (unread left : Option (List ℕ)) (old new : List ℕ) (line : HeadLine) : Type 0 where
  pub bytes : List ℕ
  pub consumed : Consumes unread left bytes
  pub kept : new ≡ take most_read (old ++ bytes)
  pub whole : line ≢ Last → new ≡ old ++ bytes
