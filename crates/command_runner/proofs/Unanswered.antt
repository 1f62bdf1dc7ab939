-- What a run leaves with its writer: an answer, a front of one, or nothing.
use Rattle.std.proofs.Common.{ℕ, List, Option, Some, None, Result, Ok, Err, ◌≡◌, IfSome, refl, subst}
use Rattle.std.proofs.Common.{sym, take, ◌∙◌}
use Rattle.std.specs.Result.{IsErrAnd}
use Rattle.std.specs.Io.KnownBytes.{Appends, Keeps}
use Rattle.text_lines.specs.Streams.{AppendsFront, ConsumesText, most_read_of}
use Rattle.text_lines.specs.declared.fault.TextFault.{TextFault}
use Rattle.text_lines.specs.declared.streams.ReadError.{ReadError}
use Rattle.text_lines.specs.declared.streams.ReadError.TheVariants as reading
use Rattle.command_runner.specs.declared.tool_error.NoAnswer.{NoAnswer}
use Rattle.command_runner.specs.declared.tool_error.NoAnswer.TheVariants as none
use Rattle.command_runner.specs.declared.tool_error.ToolError.{ToolError}
use Rattle.command_runner.specs.declared.tool_error.ToolError.TheVariants.{HistoryFull, Memory, Read, Text}
use Rattle.command_runner.specs.declared.tool_error.ToolError.TheVariants.{Write}
use Rattle.command_runner.specs.CommandRun.{HasRun, HoldsOfText, IsSomeAnswer, RanOut, WroteFront}
use Rattle.command_runner.specs.CommandRun.{error_of_answering, outcome}
use Rattle.command_runner.specs.Streams.{error_of_reading}
use Rattle.command_runner.proofs.OneAnswer.{outcome-injective}

keeps_itself : (bytes : Option (List ℕ)) → Keeps bytes bytes
keeps_itself None = tt
keeps_itself (Some xs) = refl

abbrev IsText : ToolError → Type 0
IsText (Text fault) = Unit {0}
IsText e = ⊥

-- the error of an answer's end is a fault of the text
end_is_text : {End : Type 0} (end : Result End TextFault) (e : ToolError) → outcome end ≡ Err e → IsText e
end_is_text (Ok end) e is = absurd cc
end_is_text (Err fault) (Text f) is = tt
end_is_text (Err fault) e is = cc

is_error : {End : Type 0} (e : ToolError) (result : Result End ToolError) → IsErrAnd result (λ x. x ≡ e)
    → result ≡ Err e
is_error e (Ok end) is = absurd is
is_error e (Err error) is = cc

the_error : {End : Type 0} (result : Result End ToolError) (e f : ToolError) → result ≡ Err e
    → result ≡ Err f → e ≡ f
the_error result e f is other = cc

-- a run that ended with no end of an answer
failed : {End : Type 0} (Answers : List ℕ → Result End TextFault → List ℕ → Type 0)
    (IsFull : List ℕ → Type 0) (unread left old new : Option (List ℕ)) (result : Result End ToolError)
    (e : ToolError) → result ≡ Err e → (IsText e → ⊥) → (e ≡ Memory → Keeps old new)
    → (e ≡ Read → Keeps old new)
    → (e ≡ Write → HoldsOfText unread (λ text. WroteFront old new (IsSomeAnswer (Answers text))))
    → (e ≡ HistoryFull → HoldsOfText unread (RanOut IsFull old new)) → ConsumesText unread left
    → HasRun Answers IsFull unread left old new result
failed Answers IsFull unread left old new result e is no_text memory read write full few = record {
  answered = λ end ended. absurd (no_text (end_is_text end e (sym ended ∙ is)));
  memory = λ it. memory (the_error result e Memory is it);
  read = λ it. read (the_error result e Read is it);
  write = λ it. write (the_error result e Write is it);
  full = λ it. full (the_error result e HistoryFull is it);
  few = few;
}

-- ---- the text was not read

pub unread_text : {End : Type 0} (Answers : List ℕ → Result End TextFault → List ℕ → Type 0)
    (IsFull : List ℕ → Type 0) (unread left old : Option (List ℕ)) (error : ReadError)
    (result : Result End ToolError) → IsErrAnd result (λ e. e ≡ error_of_reading error)
    → ConsumesText unread left → HasRun Answers IsFull unread left old old result
unread_text Answers IsFull unread left old reading.Memory result told few =
    failed Answers IsFull unread left old old result Memory (is_error Memory result told) (λ it. it)
    (λ _. keeps_itself old) (λ _. keeps_itself old) (λ it. absurd cc) (λ it. absurd cc) few
unread_text Answers IsFull unread left old reading.Read result told few =
    failed Answers IsFull unread left old old result Read (is_error Read result told) (λ it. it)
    (λ _. keeps_itself old) (λ _. keeps_itself old) (λ it. absurd cc) (λ it. absurd cc) few

-- ---- it has no answer

pub unanswered : {End : Type 0} (Answers : List ℕ → Result End TextFault → List ℕ → Type 0) (IsFull : List ℕ
    → Type 0)
    (unread left old : Option (List ℕ)) (read text : List ℕ) (why : NoAnswer) (result : Result End ToolError)
    → IsErrAnd result (λ e. e ≡ error_of_answering why)
    → IfSome unread (λ input. read ≡ take (most_read_of input) input) → text ≡ read →
    (why ≡ none.HistoryFull → IsFull text)
    → ConsumesText unread left → HasRun Answers IsFull unread left old old result
unanswered Answers IsFull unread left old read text none.Memory result told given shown full few =
    failed Answers IsFull unread left old old result Memory (is_error Memory result told) (λ it. it)
    (λ _. keeps_itself old) (λ _. keeps_itself old) (λ it. absurd cc) (λ it. absurd cc) few
unanswered Answers IsFull unread left old read text none.HistoryFull result told given shown full few =
    failed Answers IsFull unread left old old result HistoryFull (is_error HistoryFull result told)
    (λ it. it) (λ it. absurd cc) (λ it. absurd cc) (λ it. absurd cc)
    (λ _. record {
      text = text;
      read = subst (λ t. IfSome unread (λ input. t ≡ take (most_read_of input) input)) (sym shown) given;
      holds = record { full = full refl; kept = keeps_itself old };
    })
    few

-- ---- an answer was made

module _ {End : Type 0} (Answers : List ℕ → Result End TextFault → List ℕ → Type 0)
    (IsFull : List ℕ → Type 0) (unread left old new : Option (List ℕ)) (read text lines : List ℕ)
    (mine : Result End TextFault) (given : IfSome unread (λ input. read ≡ take (most_read_of input) input))
    (shown : text ≡ read) (answers : Answers text mine lines) (few : ConsumesText unread left) where
  was_read : IfSome unread (λ input. text ≡ take (most_read_of input) input)
  was_read = subst (λ t. IfSome unread (λ input. t ≡ take (most_read_of input) input)) (sym shown) given

  -- and was not written, or not whole
  pub unwritten : (result : Result End ToolError) → IsErrAnd result (λ e. e ≡ Write)
      → AppendsFront old new lines → HasRun Answers IsFull unread left old new result
  unwritten result error front =
      failed Answers IsFull unread left old new result Write (is_error Write result error) (λ it. it)
      (λ it. absurd cc) (λ it. absurd cc)
      (λ _. record {
        text = text;
        read = was_read;
        holds = record {
          meant = lines;
          answers = record { end = mine; answers = answers };
          appended = front;
        };
      })
      (λ it. absurd cc) few

  no_want : (e : ToolError) (result : Result End ToolError) → result ≡ outcome mine → (IsText e → ⊥)
      → result ≡ Err e → ⊥
  no_want e result ended no_text is = no_text (end_is_text mine e (sym ended ∙ is))

  -- and was written
  pub written : (result : Result End ToolError) → result ≡ outcome mine → Appends old new lines
      → HasRun Answers IsFull unread left old new result
  written result ended appended = record {
    answered = λ end is. record {
      text = text;
      read = was_read;
      holds = record {
        written = lines;
        answers = subst (λ e. Answers text e lines) (outcome-injective mine end (sym ended ∙ is)) answers;
        appended = appended;
      };
    };
    memory = λ it. absurd (no_want Memory result ended (λ no. no) it);
    read = λ it. absurd (no_want Read result ended (λ no. no) it);
    write = λ it. absurd (no_want Write result ended (λ no. no) it);
    full = λ it. absurd (no_want HistoryFull result ended (λ no. no) it);
    few = few;
  }
