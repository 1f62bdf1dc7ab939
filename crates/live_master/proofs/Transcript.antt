-- A session is a script: its commands are performed one after another, and its answers are their report.
use Rattle.std.proofs.Common.{ℕ, List, [], ◌∷◌, ◌++◌, ◌≡◌, ◌∙◌, ap, subst, refl, inl, inr, sym}
use Rattle.std.proofs.Common.{◌<◌, length, Option, Result, Ok, Err}
use Rattle.price_certificate.specs.Certificate.{Claim}
use Rattle.plan_draft.specs.Drafts.{DraftView}
use Rattle.text_lines.specs.Texts.{Line}
use Rattle.line_rules.specs.Reading.{IsFitLine}
use Rattle.line_talk.specs.Talks.{Replied, Said, heard}
use Rattle.master_state.specs.Jobs.{Job}
use Rattle.master_state.specs.declared.answers.CommitError.{CommitError}
use Rattle.master_state.specs.declared.answers.CommitError.TheVariants as commit
use Rattle.master_state.specs.declared.answers.Wave.{Wave}
use Rattle.script_text.specs.declared.script.Command.{Command}
use Rattle.script_text.specs.declared.script.Command.TheVariants as command
use Rattle.job_play.specs.Reports.{Performs}
use Rattle.text_lines.specs.declared.fault.Fault.TheVariants.{NoPrice}
use Rattle.live_master.specs.Plans.{CommitsPlan, IsPlanLine}
use Rattle.live_master.specs.Requests.{AnswersRequest, word_of}
use Rattle.live_master.specs.declared.requests.Request.{Request}
use Rattle.live_master.specs.declared.requests.Request.TheVariants as request
use Rattle.live_master.specs.Serving.{AreToldIn, GoesOnHearing, IsAside, IsSession, Live}
use Rattle.live_master.specs.Serving.{PerformsAllLive, PerformsIn, PerformsLive, TellsCommand}
use Rattle.live_master.proofs.Heads.{short_front}
use Rattle.live_master.proofs.Sessions.{request_short}

-- a line that is not heard to the most is heard whole
heard_short : (line : Line) → length (heard line) < 524288 → heard line ≡ line
heard_short line short = short_front 524288 line short

-- a line whose front is a request is heard whole
whole_request : (line : Line) (asked : Request) → heard line ≡ word_of asked → line ≡ word_of asked
whole_request line asked is = sym (heard_short line (request_short (heard line) (asked, is))) ∙ is

-- ---- one line

-- the head has not changed
abbrev Moves : Live → Live → Type 0
Moves old new = new ≡ record old { job = new.job; last = new.last; draft = new.draft }

moves : (old new : Live) (job : Job) (last : Option Claim) (draft : DraftView)
    → new ≡ record old { job = job; last = last; draft = draft } → Moves old new
moves old new job last draft is = is ∙ (λ i. record old {
  job = (sym is i).job;
  last = (sym is i).last;
  draft = (sym is i).draft;
})

-- what a command does is what a script has it do
performs_job : (old new : Live) (c : Command) (out : List ℕ) → PerformsIn old c out new
    → PerformsLive old.names old.target old.job c out new.job
performs_job old new c out (inl (is, starts)) =
    inl (subst (λ (x : Command). Performs old.names old.target old.job x out new.job) (sym is) (record {
      plan = starts.shown.starts;
      wave = starts.wave;
      committed = starts.committed;
      out_is = starts.out_is;
    }))
performs_job old new c out (inr (inl (ignores, kept))) = inr ignores
performs_job old new c out (inr (inr (other, performs, kept))) = inl performs

module _ (line : Line) (answer : List ℕ) (said : Said) (old mid new : Live) (s : IsSession mid said new)
    (head : Moves old mid) where
  others : AreToldIn old.known old.names said s.commands s.report
  others = subst (λ (l : Live). AreToldIn l.known l.names said s.commands s.report) head s.told

  rest : PerformsAllLive old.names old.target mid.job s.commands s.report new.job
  rest = subst (λ (l : Live). PerformsAllLive l.names l.target mid.job s.commands s.report new.job) head
      s.performs

  ends : Moves old new
  ends = s.head ∙ ap (λ (l : Live). record l { job = new.job; last = new.last; draft = new.draft }) head

  -- it told the master nothing
  aside : IsAside old.known old.names line answer → mid.job ≡ old.job
      → IsSession old ((line, answer) ∷ said) new
  aside is same = record {
    commands = s.commands;
    report = s.report;
    told = inl (is, others);
    performs =
        subst (λ (j : Job). PerformsAllLive old.names old.target j s.commands s.report new.job) same rest;
    head = ends;
  }

  -- it told the master a command
  commanded : (c : Command) → TellsCommand old.known old.names line c
      → PerformsLive old.names old.target old.job c answer mid.job → IsSession old ((line, answer) ∷ said) new
  commanded c tells performs = record {
    commands = c ∷ s.commands;
    report = answer ++ s.report;
    told = inr (c, s.commands, s.report, tells, refl, refl, others);
    performs = (mid.job, answer, s.report, performs, rest, refl);
    head = ends;
  }

  -- it committed a plan, which is a wave, or started nothing
  committed : line ≡ word_of request.Commit → (result : Result Wave CommitError)
      → CommitsPlan old.names old.draft old.job result answer mid.job
      → IsSession old ((line, answer) ∷ said) new
  committed is (Ok wave) commits = commanded command.Wave (inr (is, refl)) (inl (record {
    plan = old.draft.starts;
    wave = wave;
    committed = commits.answers.1;
    out_is = commits.told;
  }))
  committed is (Err commit.HistoryFull) commits =
      aside (inr (inr (request.Commit, is, λ _. inl commits.told))) commits.answers.1
  committed is (Err (commit.Stale c)) commits =
      aside (inr (inr (request.Commit, is, λ _. inr (c, commits.told)))) commits.answers.2
  committed is (Err commit.Memory) commits = absurd commits.told

-- ---- requests

-- to a commit no state is told
asks_none : (old : Live) (asked : Request) (answer : List ℕ) → asked ≡ request.Commit
    → AnswersRequest old.names old.job.state old.last asked answer → ⊥
asks_none old asked answer is told =
    subst (λ (r : Request). AnswersRequest old.names old.job.state old.last r answer) is told

no_commit : request.Drop ≡ request.Commit → ⊥
no_commit e = cc

-- ---- all lines

pub transcript : (said : Said) (old new : Live) → Replied GoesOnHearing old said new → IsSession old said new
transcript [] old new h = record {
  commands = [];
  report = [];
  told = (refl, refl);
  performs = (refl, ap (λ (l : Live). l.job) h);
  head = moves old new old.job old.last old.draft h;
}
transcript ((line, answer) ∷ said) old new (mid, inl tells, rest) =
    commanded line answer said old mid new (transcript said mid new rest)
    (moves old mid mid.job mid.last old.draft tells.head) tells.command
    (inl (record {
      statement = tells.statement;
      fit = subst (λ (l : Line). IsFitLine old.known l tells.statement) (heard_short line tells.short)
          tells.fit;
      says = tells.says;
    }))
    (performs_job old mid tells.command answer tells.performs)
transcript ((line, answer) ∷ said) old new (mid, inr (inl commits), rest) =
    committed line answer said old mid new (transcript said mid new rest)
    (moves old mid _ _ _ commits.head) (whole_request line request.Commit commits.line_is) commits.result
    commits.commits
transcript ((line, answer) ∷ said) old new (mid, inr (inr (inl asks)), rest) =
    aside line answer said old mid new (transcript said mid new rest)
    (moves old mid old.job old.last old.draft asks.unchanged)
    (inr (inr (
      asks.request,
      whole_request line asks.request asks.line_is,
      λ is. absurd (asks_none old asks.request answer is asks.told),
    )))
    (ap (λ (l : Live). l.job) asks.unchanged)
transcript ((line, answer) ∷ said) old new (mid, inr (inr (inr (inl refuses))), rest) =
    aside line answer said old mid new (transcript said mid new rest)
    (moves old mid old.job old.last old.draft refuses.unchanged)
    (inl (refuses.fault, refuses.out_is)) (ap (λ (l : Live). l.job) refuses.unchanged)
transcript ((line, answer) ∷ said) old new (mid, inr (inr (inr (inr (inl drafts)))), rest) =
    aside line answer said old mid new (transcript said mid new rest)
    (moves old mid old.job old.last _ drafts.head)
    (inr (inl (
      drafts.statement,
      subst (λ (l : Line). IsPlanLine old.known l drafts.statement)
          (heard_short line drafts.is_line.short) drafts.is_line,
    )))
    (ap (λ (l : Live). l.job) drafts.head)
transcript ((line, answer) ∷ said) old new (mid, inr (inr (inr (inr (inr (inl lacks))))), rest) =
    aside line answer said old mid new (transcript said mid new rest)
    (moves old mid old.job old.last old.draft lacks.unchanged)
    (inl (NoPrice, lacks.out_is)) (ap (λ (l : Live). l.job) lacks.unchanged)
transcript ((line, answer) ∷ said) old new (mid, inr (inr (inr (inr (inr (inr drops))))), rest) =
    aside line answer said old mid new (transcript said mid new rest)
    (moves old mid old.job old.last _ drops.head)
    (inr (inr (request.Drop, whole_request line request.Drop drops.line_is, λ is. absurd (no_commit is))))
    (ap (λ (l : Live). l.job) drops.head)
