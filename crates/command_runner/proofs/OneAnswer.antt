-- A command whose texts have one answer each wrote that of its text.
use Rattle.std.proofs.Common.{ℕ, List, Option, Some, None, Result, Ok, Err, ◌≡◌, ◌∙◌, IfSome, subst, sym}
use Rattle.std.proofs.Common.{take}
use Rattle.std.specs.Io.KnownBytes.{Appends}
use Rattle.text_lines.specs.Streams.{most_read_of}
use Rattle.text_lines.specs.declared.fault.TextFault.{TextFault}
use Rattle.command_runner.specs.declared.tool_error.ToolError.{ToolError}
use Rattle.command_runner.specs.CommandRun.{HasOneAnswer, WroteItsAnswer, outcome}

-- different ends of an answer are different ends of the command
pub outcome-injective : {End : Type 0} (a b : Result End TextFault) → outcome a ≡ outcome b → a ≡ b
outcome-injective (Ok a) (Ok b) same = cc
outcome-injective (Err a) (Err b) same = cc
outcome-injective a b same = cc

pub wrote_its_answer : {End : Type 0} (Answers : List ℕ → Result End TextFault → List ℕ → Type 0)
    (SameEnd : Result End TextFault → Result End TextFault → Type 0) (Alike : List ℕ → List ℕ → Type 0)
    (unread old new : Option (List ℕ)) (read text line : List ℕ) (mine : Result End TextFault)
    (result : Result End ToolError) → HasOneAnswer Answers SameEnd Alike → result ≡ outcome mine
    → IfSome unread (λ input. read ≡ take (most_read_of input) input) → text ≡ read → Answers text mine line
    → Appends old new line → WroteItsAnswer Answers SameEnd Alike unread old new result
wrote_its_answer Answers SameEnd Alike None old new read text line mine result one ended given shown answers
    appended = λ end is. tt
wrote_its_answer Answers SameEnd Alike (Some input) old new read text line mine result one ended given shown
    answers appended = λ end is other said right.
    let own = outcome-injective end mine (sym is ∙ ended) in
    let ours = subst (λ t. Answers t mine line) (shown ∙ given) answers in
    let both = one (take (most_read_of input) input) mine other line said ours right in (
      subst (λ e. SameEnd e other) (sym own) both.0,
      record { written = line; answers = both.1; appended = appended },
    )
