-- What a run of a command takes from its reader and leaves with its writer.
use Rattle.std.specs.Prelude.{ℕ, List, ⊤, ◌≡◌, Option, Ok, Err, IfSome, take}
use Rattle.std.specs.declared.result.Result.{Result}
use Rattle.std.specs.Io.KnownBytes.{Appends, Keeps}
use Rattle.text_lines.specs.Streams.{AppendsFront, ConsumesText, most_read_of}
use Rattle.text_lines.specs.declared.fault.TextFault.{TextFault}
use Rattle.command_runner.specs.declared.tool_error.ToolError.{ToolError}
use Rattle.command_runner.specs.declared.tool_error.ToolError.TheVariants.{HistoryFull, Memory, Read, Text}
use Rattle.command_runner.specs.declared.tool_error.ToolError.TheVariants.{Write}
use Rattle.command_runner.specs.declared.tool_error.NoAnswer.{NoAnswer}
use Rattle.command_runner.specs.declared.tool_error.NoAnswer.TheVariants as none

-- all of an answer
pub record Wrote (old new : Option (List ℕ)) (IsAnswer : List ℕ → Type 0) : Type 0 where
  pub written : List ℕ
  pub answers : IsAnswer written
  pub appended : Appends old new written

-- a front of an answer
pub record WroteFront (old new : Option (List ℕ)) (IsAnswer : List ℕ → Type 0) : Type 0 where
  pub meant : List ℕ
  pub answers : IsAnswer meant
  pub appended : AppendsFront old new meant

-- a command that answered the text ends so
abbrev pub outcome : {End : Type 0} → Result End TextFault → Result End ToolError
outcome (Ok end) = Ok end
outcome (Err fault) = Err (Text fault)

-- a command that has no answer to the text ends so
abbrev pub error_of_answering : NoAnswer → ToolError
error_of_answering none.Memory = Memory
error_of_answering none.HistoryFull = HistoryFull

-- this holds of some text: of what a reader has, where that is known
pub record HoldsOfText (unread : Option (List ℕ)) (Holds : List ℕ → Type 0) : Type 0 where
  pub text : List ℕ
  pub read : IfSome unread (λ input. text ≡ take (most_read_of input) input)
  pub holds : Holds text

-- the text is one to which a command has no answer for want of attempts; nothing is written
pub record RanOut (IsFull : List ℕ → Type 0) (old new : Option (List ℕ)) (text : List ℕ) : Type 0 where
  pub full : IsFull text
  pub kept : Keeps old new

-- of no text, where a command has an answer to each
abbrev pub NoText : List ℕ → Type 0
NoText text = ⊥

-- the lines are some with which a command ends
pub record IsSomeAnswer {End : Type 0} (Answers : Result End TextFault → List ℕ →
    Type 0) (lines : List ℕ) : Type 0 where
  pub end : Result End TextFault
  pub answers : Answers end lines

-- a command of these answers read one text from a reader, wrote its answer to a writer, and ended so
pub record HasRun {End : Type 0} (Answers : List ℕ → Result End TextFault → List ℕ → Type 0)
    (IsFull : List ℕ → Type 0) (unread left old new : Option (List ℕ)) (result : Result End ToolError)
    : Type 0 where
  pub answered : (end : Result End TextFault) → result ≡ outcome end
      → HoldsOfText unread (λ text. Wrote old new (Answers text end))
  pub memory : result ≡ Err Memory → Keeps old new
  pub read : result ≡ Err Read → Keeps old new
  pub write : result ≡ Err Write
      → HoldsOfText unread (λ text. WroteFront old new (IsSomeAnswer (Answers text)))
  pub full : result ≡ Err HistoryFull → HoldsOfText unread (RanOut IsFull old new)
  pub few : ConsumesText unread left

-- each text has ends that are the same, and answers that are alike
abbrev pub HasOneAnswer : {End : Type 0} → (List ℕ → Result End TextFault → List ℕ → Type 0)
    → (Result End TextFault → Result End TextFault → Type 0) → (List ℕ → List ℕ → Type 0) → Type 0
HasOneAnswer {End} Answers SameEnd Alike = (text : List ℕ) (a b : Result End TextFault) (x y : List ℕ)
    → Answers text a x → Answers text b y → SameEnd a b × Alike x y

-- any two answers are alike, where it stays free which is written
abbrev pub AnyLines : List ℕ → List ℕ → Type 0
AnyLines _ _ = ⊤

-- what was written is the answer of the text: any other answer has the same end, and is alike
abbrev pub WroteItsAnswer : {End : Type 0} → (List ℕ → Result End TextFault → List ℕ → Type 0)
    → (Result End TextFault → Result End TextFault → Type 0) → (List ℕ → List ℕ → Type 0)
    → Option (List ℕ) → Option (List ℕ) → Option (List ℕ) → Result End ToolError → Type 0
WroteItsAnswer {End} Answers SameEnd Alike unread old new result = (end : Result End TextFault) →
    result ≡ outcome end
    → IfSome unread (λ input. (other : Result End TextFault) (line : List ℕ) →
    Answers (take (most_read_of input) input) other line
    → SameEnd end other × Wrote old new (λ written. Alike written line))
