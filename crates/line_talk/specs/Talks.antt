-- What is answered to what is read, at each read of a line and at the end.
use Rattle.std.specs.Prelude.{ℕ, ◌≡◌, ◌≢◌, ◌≤◌, ◌⊎◌, ◌++◌, ◌∷◌, [], ⊤, Bool, false, List, Option, Ok, Err, IfSome}
use Rattle.std.specs.Prelude.{length, take}
use Rattle.std.specs.List.{All, flat_map}
use Rattle.std.specs.Io.KnownBytes.{Appends, Consumes, IsAtEnd, Keeps}
use Rattle.std.specs.declared.result.Result.{Result}
use Rattle.text_lines.specs.Streams.{AppendsFront}
use Rattle.command_runner.specs.declared.tool_error.ToolError.{ToolError}
use Rattle.command_runner.specs.declared.tool_error.ToolError.TheVariants as tool
use Rattle.line_talk.specs.declared.LineRead.{LineRead}
use Rattle.line_talk.specs.declared.LineRead.TheVariants as read
use Rattle.line_talk.specs.declared.Piece.{Piece}
use Rattle.line_talk.specs.declared.Piece.TheVariants as piece
use Rattle.line_talk.specs.declared.TalkEnd.{TalkEnd}
use Rattle.line_talk.specs.declared.TalkEnd.TheVariants as end
use Rattle.line_talk.specs.declared.Turn.{Turn}
use Rattle.line_talk.specs.declared.Turn.TheVariants.{Last, More}

-- ---- one line

abbrev pub IsUnbroken : List ℕ → Type 0
IsUnbroken line = All (λ b. b ≢ 10) line

-- no line feed, but perhaps a last one
abbrev pub IsOfOneLine : List ℕ → Type 0
IsOfOneLine bytes = (body : List ℕ) × IsUnbroken body × ((bytes ≡ body) ⊎ (bytes ≡ body ++ 10 ∷ []))

-- the bytes are the line with its line feed
pub record IsWhole (body bytes : List ℕ) : Type 0 where
  pub unbroken : IsUnbroken body
  pub fed : bytes ≡ body ++ 10 ∷ []

-- what stood there, and the line behind it, as much as there is room for
abbrev pub kept : ℕ → List ℕ → List ℕ → List ℕ
kept most old line = take most (old ++ line)

-- reading failed, or there was no memory
abbrev pub IsOfReading : ToolError → Type 0
IsOfReading tool.Read = ⊤
IsOfReading tool.Memory = ⊤
IsOfReading why = ⊥

-- what a read of a line found, where these bytes were taken
abbrev pub Finds : ℕ → List ℕ → List ℕ → List ℕ → Option (List ℕ) → Result LineRead ToolError → Type 0
Finds most old new bytes unread (Ok read.Whole) =
    (body : List ℕ) × IsWhole body bytes × (new ≡ kept most old body)
Finds most old new bytes unread (Ok read.Over) = (bytes ≡ []) × (new ≡ old) × IsAtEnd unread
Finds most old new bytes unread (Ok read.Unfed) = IsUnbroken bytes × (new ≡ kept most old bytes)
Finds most old new bytes unread (Err why) = IsOfReading why × IsUnbroken bytes

pub record ReadsLine (most : ℕ) (old new : List ℕ) (unread left : Option (List ℕ))
    (result : Result LineRead ToolError) : Type 0 where
  pub bytes : List ℕ
  pub consumed : Consumes unread left bytes
  pub finds : Finds most old new bytes unread result

-- an answer as it is written: an empty line ends it
abbrev pub closed : List ℕ → List ℕ
closed answer = answer ++ 10 ∷ []

-- a line is answered, and the answer is written; or nothing of it is, or a front
pub record Answers {T : Type 0} (Replies : T → List ℕ → List ℕ → T → Type 0) (Wrote : List ℕ → Type 0)
    (before : T) (line : List ℕ) (after : T) : Type 0 where
  pub answer : List ℕ
  pub replies : Replies before line answer after
  pub wrote : Wrote (closed answer)

-- what a talker hears of a line
abbrev pub heard : List ℕ → List ℕ
heard line = take 524288 line

-- a talker's relation to lines that it hears, at one turn or at some
abbrev pub AtTurn : {T : Type 0} → (T → List ℕ → Turn → List ℕ → T → Type 0) → Turn
    → T → List ℕ → List ℕ → T → Type 0
AtTurn Replies turn before line answer after = Replies before (heard line) turn answer after

abbrev pub AtSome : {T : Type 0} → (T → List ℕ → Turn → List ℕ → T → Type 0) → T → List ℕ → List ℕ → T → Type 0
AtSome Replies before line answer after = (turn : Turn) × Replies before (heard line) turn answer after

abbrev pub Turned : {T : Type 0} → (T → List ℕ → Turn → List ℕ → T → Type 0) → Option (List ℕ)
    → Option (List ℕ) → T → List ℕ → T → Result Turn ToolError → Type 0
Turned Replies old new before line after (Ok turn) =
    Answers (AtTurn Replies turn) (λ text. Appends old new text) before line after
Turned Replies old new before line after (Err tool.Write) =
    Answers (AtSome Replies) (λ text. AppendsFront old new text) before line after
Turned Replies old new before line after (Err why) = Keeps old new

-- ---- a talk

-- the lines that were told, each with its answer
abbrev pub Said : Type 0
Said = List (List ℕ × List ℕ)

abbrev pub told : Said → List ℕ
told said = flat_map (λ turn. turn.0 ++ 10 ∷ []) said

abbrev pub answered : Said → List ℕ
answered said = flat_map (λ turn. closed turn.1) said

-- each line is answered by what the lines before it left
abbrev pub Replied : {T : Type 0} → (T → List ℕ → List ℕ → T → Type 0) → T → Said → T → Type 0
Replied Replies before [] after = after ≡ before
Replied {T} Replies before (turn ∷ said) after =
    (mid : T) × Replies before turn.0 turn.1 mid × Replied Replies mid said after

-- So it stands whenever the next line is read: whole lines were taken, each is answered, whole, and nothing
-- else was written.
pub record IsSettled {T : Type 0} (Replies : T → List ℕ → List ℕ → T → Type 0)
    (unread left old new : Option (List ℕ)) (before after : T) : Type 0 where
  pub said : Said
  pub unbroken : All (λ turn. IsUnbroken turn.0) said
  pub consumed : Consumes unread left (told said)
  pub appended : Appends old new (answered said)
  pub replied : Replied Replies before said after

-- the talk was settled, and then at most one line more was taken, of whose answer this was written
pub record IsBroken {T : Type 0} (Replies : T → List ℕ → List ℕ → T → Type 0)
    (Wrote : Option (List ℕ) → T → List ℕ → Type 0) (unread left old : Option (List ℕ)) (before : T)
    : Type 0 where
  pub at : Option (List ℕ)
  pub by : Option (List ℕ)
  pub mid : T
  pub settled : IsSettled Replies unread at old by before mid
  pub rest : List ℕ
  pub one : IsOfOneLine rest
  pub taken : Consumes at left rest
  pub wrote : Wrote by mid rest

-- the line more is whole, the talker answers it, and this is written of its answer
pub record IsAnswered {T : Type 0} (Replies : T → List ℕ → List ℕ → T → Type 0) (Wrote : List ℕ → Type 0)
    (before after : T) (rest : List ℕ) : Type 0 where
  pub line : List ℕ
  pub line_is : rest ≡ line ++ 10 ∷ []
  pub answers : Answers Replies Wrote before line after

-- what a talk that ended so took and wrote, and what the talker is then
abbrev pub Talked : {T : Type 0} → (T → List ℕ → Turn → List ℕ → T → Type 0) → Option (List ℕ) → Option (List ℕ)
    → Option (List ℕ) → Option (List ℕ) → T → T → Result TalkEnd ToolError → Type 0
Talked Replies unread left old new before after (Ok end.Told) = IsBroken (AtTurn Replies More)
    (λ by mid rest. IsAnswered (AtTurn Replies Last) (λ text. Appends by new text) mid after rest)
    unread left old before
Talked Replies unread left old new before after (Ok end.Over) =
    IsSettled (AtTurn Replies More) unread left old new before after × IfSome unread (λ _. IsAtEnd left)
Talked Replies unread left old new before after (Ok end.Unfed) = IsBroken (AtTurn Replies More)
    (λ by mid rest. Keeps by new × (after ≡ mid)) unread left old before
Talked Replies unread left old new before after (Err tool.Write) = IsBroken (AtTurn Replies More)
    (λ by mid rest. IsAnswered (AtSome Replies) (λ text. AppendsFront by new text) mid after rest)
    unread left old before
Talked Replies unread left old new before after (Err why) =
    IsBroken (AtTurn Replies More) (λ by mid rest. Keeps by new) unread left old before

-- What follows serves private clauses alone.

-- what was shown of a line is kept, and so many bytes are done with
abbrev pub Shows : ℕ → List ℕ → List ℕ → List ℕ → ℕ → Piece → Type 0
Shows most old new shown count piece.Last =
    (body : List ℕ) × IsWhole body (take count shown) × (count ≤ length shown) × (new ≡ kept most old body)
Shows most old new shown count piece.Part =
    IsUnbroken shown × (count ≡ length shown) × (new ≡ kept most old shown)
Shows most old new shown count piece.Nothing = ⊥
Shows most old new shown count piece.End = (shown ≡ []) × (count ≡ 0) × (new ≡ old)

-- what one read gave of a line, where these bytes were taken
abbrev pub Gives : ℕ → List ℕ → List ℕ → List ℕ → Option (List ℕ) → Result Piece ToolError → Type 0
Gives most old new bytes unread (Ok piece.Last) =
    (body : List ℕ) × IsWhole body bytes × (new ≡ kept most old body)
Gives most old new bytes unread (Ok piece.Part) = IsUnbroken bytes × (new ≡ kept most old bytes)
Gives most old new bytes unread (Ok piece.Nothing) = (bytes ≡ []) × (new ≡ old)
Gives most old new bytes unread (Ok piece.End) = (bytes ≡ []) × (new ≡ old) × IsAtEnd unread
Gives most old new bytes unread (Err why) = IsOfReading why × (bytes ≡ [])

pub record TakesPiece (most : ℕ) (old new : List ℕ) (unread left : Option (List ℕ))
    (result : Result Piece ToolError) : Type 0 where
  pub bytes : List ℕ
  pub consumed : Consumes unread left bytes
  pub gives : Gives most old new bytes unread result

-- a line has been begun by these bytes, if by any, and is kept
pub record IsBegun (most : ℕ) (old line : List ℕ) (unread left : Option (List ℕ)) (begun : Bool) : Type 0 where
  pub bytes : List ℕ
  pub consumed : Consumes unread left bytes
  pub unbroken : IsUnbroken bytes
  pub line_is : line ≡ kept most old bytes
  pub none : begun ≡ false → bytes ≡ []
