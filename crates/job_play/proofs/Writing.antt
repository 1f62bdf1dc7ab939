-- The lines of one command, written after what stood there.
use Rattle.std.proofs.Common.{◌≡◌, ◌≢◌, ℕ, List, ◌++◌, Option, Some, refl, sym, ap, ◌∙◌, inl, inr}
use Rattle.std.proofs.Common.{subst, append_assoc}
use Rattle.std.proofs.lemmas.List.{append-nil}
use Rattle.master_state.specs.declared.answers.Answer.{Answer}
use Rattle.master_state.specs.declared.answers.Answer.TheVariants as answer
use Rattle.master_state.specs.declared.answers.Reply.{Reply}
use Rattle.master_state.specs.declared.answers.Why.{Why}
use Rattle.master_state.specs.declared.answers.Why.TheVariants.{Memory}
use Rattle.master_state.specs.declared.states.Start.{Start}
use Rattle.master_state.specs.declared.states.Work.TheVariants as works
use Rattle.master_state.specs.States.{start_of, next_attempt}
use Rattle.master_state.specs.Tests.{next_part, next_worker}
use Rattle.master_state.specs.Refusals.{Call, MapDone, PartDone, ReduceStart, Sweep, Backup}
use Rattle.master_state.specs.Jobs.{Job, Answers, AnswersReduce, AnswersSweep, Plain}
use Rattle.master_state.specs.Jobs.{IsAccepted, IsIgnored, IsReply, plain}
use Rattle.script_text.specs.declared.script.Names.{Names}
use Rattle.script_text.specs.declared.script.Command.{Command}
use Rattle.script_text.specs.declared.script.Command.TheVariants as command
use Rattle.report_lines.specs.Lines.{accepted_line, answer_line, backup_line, dead_lines}
use Rattle.report_lines.specs.Lines.{ignored_line, reduce_line}
use Rattle.job_play.specs.Reports.{IsTold, Performs, Does, DoesSplit, DoesPart, FailsAttempt, FailsWork}
use Rattle.job_play.specs.Reports.{alone, deaths, told}
use Rattle.job_play.specs.Handing.{HandsSplit, HandsPart}
use Rattle.job_play.specs.Playing.{IsAnswered, Performed}

told_alone : (given : Plain) → answer_line given ≡ told given (alone given)
told_alone (answer.Accepted place rest) = sym (append-nil (answer_line (answer.Accepted place rest)))
told_alone (answer.Ignored why rest) = refl

pub is_told : (old new : Job) (call : Call) (given : Plain) → Answers old call given new →
    IsTold old call alone (answer_line given) new
is_told old new call given answers = record { answer = given; answers = answers; out_is = told_alone given }

-- the line of an answer is all that is told of a call that wants no more
pub answered : (old new : Job) (call : Call) (given : Plain) (before now : List ℕ) →
    Answers old call given new →
    now ≡ before ++ answer_line given → IsAnswered old call alone before now new
answered old new call given before now answers written =
    record { out = answer_line given; is_told = is_told old new call given answers; written = written }

pub plainly : {T B : Type 0} (old new : Job) (call : Call) (given : Answer T B) →
    Answers old call given new → Answers old call (plain given) new
plainly old new call (answer.Accepted place told) answers = answers
plainly old new call (answer.Ignored why back) answers = answers

-- ---- an attempt is done

-- a command on an attempt, by what was started
by_start : (names : Names) (target : ℕ) (old new : Job) (c : Command) (a : ℕ) (Does : Option Start → Type 0)
    (out before now : List ℕ) → (Does (start_of old.state a) → Performs names target old c out new)
    → (start : Option Start) → start_of old.state a ≡ start → Does start → now ≡ before ++ out
    → Performed names target old c before now new
by_start names target old new c a Does out before now performs start is does written =
    record { out = out; performs = performs (subst Does (sym is) does); written = written }

pub done_split : (names : Names) (target : ℕ) (old new : Job) (a split w : ℕ) (given : Plain)
    (before now : List ℕ) → start_of old.state a ≡ Some (record { work = works.Split split; worker = w }) →
    HandsSplit old a split given new → now ≡ before ++ answer_line given →
    Performed names target old (command.Done a) before now new
done_split names target old new a split w given before now start hands written =
    let does : DoesSplit old a split (answer_line given) new = record {
      result = hands.result;
      text = hands.text;
      parts = hands.parts;
      is_told = is_told old new (MapDone a hands.result) given hands.answers;
    } in
    by_start names target old new (command.Done a) a (λ one. Does old a one (answer_line given) new)
    _ before now (λ it. it) _ start does written

pub done_part : (names : Names) (target : ℕ) (old new : Job) (a part w : ℕ) (given : Plain)
    (before now : List ℕ) → start_of old.state a ≡ Some (record { work = works.Part part; worker = w }) →
    HandsPart old a part given new → now ≡ before ++ answer_line given →
    Performed names target old (command.Done a) before now new
done_part names target old new a part w given before now start hands written =
    let does : DoesPart old a part (answer_line given) new = record {
      result = hands.result;
      part_is = hands.part_is;
      parts = hands.parts;
      texts = hands.texts;
      is_told = is_told old new (PartDone a hands.result) given hands.answers;
    } in
    by_start names target old new (command.Done a) a (λ one. Does old a one (answer_line given) new)
    _ before now (λ it. it) _ start does written

-- ---- an attempt fails

pub failed : (names : Names) (target : ℕ) (old new : Job) (a : ℕ) (start : Start) (given : Plain)
    (before now : List ℕ) → start_of old.state a ≡ Some start →
    FailsWork old a start.work (answer_line given) new → now ≡ before ++ answer_line given →
    Performed names target old (command.Fail a) before now new
failed names target old new a start given before now is fails written =
    by_start names target old new (command.Fail a) a (λ one. FailsAttempt old a one (answer_line given) new)
    _ before now (λ it. it) (Some start) is fails written

-- ---- an answer with lines of its own

pub written_more : (before mid now xs ys : List ℕ) → mid ≡ before ++ xs → now ≡ mid ++ ys →
    now ≡ before ++ (xs ++ ys)
written_more before mid now xs ys first next =
    next ∙ (λ i. first i ++ ys) ∙ append_assoc before xs ys

pub backup_ignored : (names : Names) (target : ℕ) (old new : Job) (split w : ℕ) (why : Why)
    (before now : List ℕ) → IsIgnored old (Backup split w) why new →
    now ≡ before ++ ignored_line why → Performed names target old (command.Backup split w) before now new
backup_ignored names target old new split w why before now answers written = record {
  out = ignored_line why;
  performs = record { answer = answer.Ignored why tt; answers = answers; out_is = refl };
  written = written;
}

pub backup_accepted : (names : Names) (target : ℕ) (old new : Job) (split w place a : ℕ)
    (before mid now : List ℕ) → IsAccepted old (Backup split w) place new → a ≡ next_attempt old.state →
    mid ≡ before ++ accepted_line place → now ≡ mid ++ backup_line names.splits names.workers a split w →
    Performed names target old (command.Backup split w) before now new
backup_accepted names target old new split w place a before mid now accepted is_next first next =
    let line = λ (n : ℕ). backup_line names.splits names.workers n split w in
    record {
      out = accepted_line place ++ line (next_attempt old.state);
      performs = record { answer = answer.Accepted place tt; answers = accepted; out_is = refl };
      written = written_more before mid now (accepted_line place) (line (next_attempt old.state)) first
          (next ∙ ap (λ (n : ℕ). mid ++ line n) is_next);
    }

pub reduce_accepted : (names : Names) (target : ℕ) (old new : Job) (place : ℕ) (reply : Reply)
    (before mid now : List ℕ) → IsReply old reply → IsAccepted old ReduceStart place new →
    mid ≡ before ++ accepted_line place →
    now ≡ mid ++ reduce_line names.workers reply.attempt reply.part reply.worker →
    Performed names target old command.Reduce before now new
reduce_accepted names target old new place reply before mid now is accepted first next =
    let s = old.state in
    let line = reduce_line names.workers (next_attempt s) (next_part s) (next_worker s) in
    record {
      out = accepted_line place ++ line;
      performs = record { answer = answer.Accepted place tt; answers = accepted; out_is = refl };
      written = written_more before mid now (accepted_line place) line first
          (next ∙ (λ i. mid ++ reduce_line names.workers (is.attempt i) (is.part i) (is.worker i)));
    }

pub reduce_ignored : (names : Names) (target : ℕ) (old new : Job) (why : Why) (before now : List ℕ) →
    AnswersReduce old (answer.Ignored why tt) new → why ≢ Memory → now ≡ before ++ ignored_line why →
    Performed names target old command.Reduce before now new
reduce_ignored names target old new why before now answers other written = elim answers [
  | inl ignored ↦ record {
    out = ignored_line why;
    performs = record { answer = answer.Ignored why tt; answers = ignored; out_is = refl };
    written = written;
  }
  | inr want ↦ absurd (other want.0)
]

pub sweep_accepted : (names : Names) (old new : Job) (counts dead : List ℕ) (place : ℕ)
    (before mid now : List ℕ) → AnswersSweep old counts (answer.Accepted place tt) dead new →
    mid ≡ before ++ accepted_line place → now ≡ mid ++ dead_lines names.workers dead →
    IsAnswered old (Sweep counts) (deaths names old counts) before now new
sweep_accepted names old new counts dead place before mid now answers first next =
    let told = deaths names old counts (answer.Accepted place tt) in
    record {
      out = accepted_line place ++ told;
      is_told = record { answer = answer.Accepted place tt; answers = answers.answer; out_is = refl };
      written = written_more before mid now (accepted_line place) told first
          (next ∙ ap (λ (those : List ℕ). mid ++ dead_lines names.workers those) answers.dead_are);
    }

pub sweep_ignored : (names : Names) (old new : Job) (counts dead : List ℕ) (why : Why) (before now : List ℕ) →
    AnswersSweep old counts (answer.Ignored why tt) dead new → now ≡ before ++ ignored_line why →
    IsAnswered old (Sweep counts) (deaths names old counts) before now new
sweep_ignored names old new counts dead why before now answers written = record {
  out = ignored_line why;
  is_told = record { answer = answer.Ignored why tt; answers = answers.answer; out_is = refl };
  written = written;
}
