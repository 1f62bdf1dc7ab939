-- What a session keeps, and what it answers to a line.
use Rattle.std.proofs.Common.{ℕ, ◌+◌, ◌-◌, ◌^◌, ◌≡◌, ◌≢◌, ◌≤◌, ◌<◌, ◌++◌, ◌∙◌, List, [], ap, arith, length, refl}
use Rattle.std.proofs.Common.{subst}
use Rattle.std.proofs.Common.{sym, inl, inr, replicate, Option, Some, None, append-nil}
use Rattle.std.specs.Prelude.{IfSome}
use Rattle.std.specs.Option.{option_map}
use Rattle.std.proofs.lemmas.List.{length-replicate, length-map}
use Rattle.std.proofs.lemmas.List.Elements.{All-nil}
use Rattle.text_lines.specs.Texts.{Line}
use Rattle.text_lines.specs.declared.fault.Fault.{Fault}
use Rattle.line_shapes.specs.Lines.{Statement}
use Rattle.line_shapes.specs.declared.keyword.Keyword.TheVariants.{End, Split, Worker}
use Rattle.line_rules.specs.Known.{Known, rows_of}
use Rattle.line_rules.specs.Reading.{IsFitLine}
use Rattle.line_rules.specs.declared.purpose.Purpose.TheVariants.{Playing}
use Rattle.line_talk.specs.declared.Turn.{Turn}
use Rattle.line_talk.specs.declared.Turn.TheVariants.{Last, More}
use Rattle.plan_text.specs.Names.{nth_word}
use Rattle.plan_text.specs.Tidy.{AreTidy}
use Rattle.plan_text.proofs.Tidy.{tidy-read}
use Rattle.master_state.specs.Jobs.{Job, IsCommitted, present}
use Rattle.master_state.specs.States.{AreAllowed, Cluster, Setup, opening}
use Rattle.master_state.specs.declared.states.Start.{Start}
use Rattle.script_text.specs.Commands.{IsKnownIn, SaysCommand}
use Rattle.script_text.specs.Heads.{FitMaster}
use Rattle.script_text.specs.Ready.{AreFew, IsWholeCommand, told_names}
use Rattle.script_text.specs.Scripts.{IsOfHead, IsOpening}
use Rattle.script_text.specs.declared.script.Command.{Command}
use Rattle.script_text.specs.declared.script.Command.TheVariants as command
use Rattle.script_text.specs.declared.script.Names.{Names}
use Rattle.script_text.specs.declared.script.ScriptText.{ScriptText}
use Rattle.script_text.proofs.OneLine.{known_line, ready_line}
use Rattle.script_text.proofs.Read.{fit_master-read}
use Rattle.job_play.specs.Given.{HasRuns, HoldsRuns}
use Rattle.job_play.specs.PlayAnswer.{cluster_in, declared_cluster}
use Rattle.job_play.specs.Playing.{Ended, Performed}
use Rattle.job_play.specs.Reports.{IsKnownCommand, opening_job}
use Rattle.job_play.specs.declared.player.PlayEnd.{PlayEnd}
use Rattle.job_play.proofs.Answered.{same_cluster}
use Rattle.job_play.proofs.Kept.{holds_runs}
use Rattle.wave_problem.specs.Assignment.{pairs_of}
use Rattle.wave_problem.specs.Wave as planned
use Rattle.price_certificate.specs.Certificate.{Certifies, claim}
use Rattle.master_state.specs.Steps.{problem_of}
use Rattle.master_state.specs.declared.answers.Wave.{Wave}
use Rattle.plan_draft.specs.Drafts.{AreNamesOf, DraftView, IsSaid, said}
use Rattle.script_text.specs.declared.script.Script.{Script}
use Rattle.live_master.specs.Plans.{IsPlanLine, wave_lines}
use Rattle.price_certificate.specs.PriceList.{PriceList}
use Rattle.wave_text.specs.Told.{TellsWave}
use Rattle.wave_text.proofs.Alike.{same_certifies}
use Rattle.live_master.specs.Requests.{AnswersAudit, IsRequest, word_of}
use Rattle.live_master.specs.Refusals.{refusal_line}
use Rattle.live_master.specs.Serving.{Committed, Hears, IsFaultOf, IsNamedBy, IsOpen, IsOpened, Live, Obeys}
use Rattle.live_master.specs.Serving.{PerformedLive, Replies, Told, claim_of, live_of, no_draft, served_on}
use Rattle.live_master.specs.declared.requests.Request.{Request}
use Rattle.live_master.specs.declared.requests.Request.TheVariants as request
use Rattle.live_master.specs.declared.serving.Audited.{Audited}
use Rattle.live_master.specs.declared.serving.Session.{Session}

module _ (text : Line) (read : ScriptText) (k : Known) (opening : IsOpening text read k) where
  names_told : read.script.names ≡ told_names opening.ended.rows
  names_told =
      let is = opening.declares.names in
      λ i. record { workers = is.workers i; splits = is.splits i; documents = is.documents i }

  rows_same : opening.ended.rows ≡ k.rows
  rows_same = sym (ap (λ (j : Known). j.rows) opening.reopened)

  tidy : AreTidy k.rows
  tidy = subst AreTidy rows_same (tidy-read Playing text opening.ended opening.read)

  fit_master : FitMaster k.rows
  fit_master = subst FitMaster rows_same (fit_master-read Playing text opening.ended (inl refl) opening.read)

  told : read.script.names ≡ told_names k.rows
  told = names_told ∙ ap told_names rows_same

  pub few : AreFew read.script.names
  few = record {
    workers = omega (
      arith,
      ap (λ (n : Names). length n.workers) told,
      length-map (rows_of Worker k.rows) (nth_word 0),
      fit_master.few_workers,
    );
    splits = omega (
      arith,
      ap (λ (n : Names). length n.splits) told,
      length-map (rows_of Split k.rows) (nth_word 0),
      tidy.few_splits,
    );
  }

  -- a session that is opened so names what its master has
  pub named_open : IsOfHead read.head read.script → (live : Live) → live.known ≡ k
      → live.names ≡ read.script.names → live.job ≡ opening_job (served_on (cluster_in read.head))
      → IsNamedBy live
  named_open of_head live known names is = record {
    playing = ap (λ (j : Known). j.purpose) (known ∙ opening.reopened)
        ∙ ap (λ (j : Known). j.purpose) opening.read.known;
    body = ap (λ (j : Known). j.section) (known ∙ opening.reopened);
    tidy = subst (λ (j : Known). AreTidy j.rows) (sym known) tidy;
    told = names ∙ told ∙ ap (λ (j : Known). told_names j.rows) (sym known);
    few = subst AreFew (sym names) few;
    workers = ap (λ (n : Names). length n.workers) names ∙ of_head.workers
        ∙ sym (ap (λ (j : Job). length j.setup.cluster.slots) is);
    splits = ap (λ (n : Names). length n.splits) names ∙ of_head.splits
        ∙ sym (ap (λ (j : Job). length j.setup.cluster.splits) is);
  }

-- what has the same head, and a job of the same cluster, has the same names
pub named_kept : (old new : Live) → new.known ≡ old.known → new.names ≡ old.names
    → new.job.setup ≡ old.job.setup → IsNamedBy old → IsNamedBy new
named_kept old new known names same named = record {
  playing = ap (λ (k : Known). k.purpose) known ∙ named.playing;
  body = ap (λ (k : Known). k.section) known ∙ named.body;
  tidy = subst (λ (k : Known). AreTidy k.rows) (sym known) named.tidy;
  told = names ∙ named.told ∙ ap (λ (k : Known). told_names k.rows) (sym known);
  few = subst AreFew (sym names) named.few;
  workers = ap (λ (n : Names). length n.workers) names ∙ named.workers
      ∙ sym (ap (λ (setup : Setup). length setup.cluster.slots) same);
  splits = ap (λ (n : Names). length n.splits) names ∙ named.splits
      ∙ sym (ap (λ (setup : Setup). length setup.cluster.splits) same);
}

-- ---- a new session

-- no attempt was started, so the empty table has the runs of each
pub holds_none : (setup : Setup) (parts : ℕ) (job : Job) → job ≡ opening_job setup
    → parts ≡ setup.cluster.parts → HoldsRuns (replicate parts []) job
holds_none setup parts job is same = subst (HoldsRuns (replicate parts [])) (sym is) (record {
  parts = length-replicate parts [] ∙ same;
  each = All-nil (λ (start : Start). HasRuns setup (replicate parts []) start.work);
})

pub is_opened : (text : Line) (live : Live) (read : ScriptText) → IsOpening text read live.known
    → live.names ≡ read.script.names → live.target ≡ read.script.target → live.last ≡ None
    → live.draft ≡ no_draft live.names → live.job ≡ opening_job (served_on (cluster_in read.head))
    → IsOpened live.audits text live
is_opened text live read opening names target last draft is = record {
  read = read;
  opening = opening;
  names = names;
  target = target;
  audits_are = refl;
  job = is ∙ ap (λ (c : Cluster). opening_job (served_on c))
      (same_cluster opening.ended read.head opening.head
      ∙ ap (λ (k : Known). declared_cluster k) (sym opening.reopened));
  last = last;
  draft = draft;
}

-- ---- what a session keeps

-- a draft of which nothing is said is of as many splits and workers as have names
pub named_empty : (names : Names) (draft : DraftView) → draft ≡ no_draft names → AreNamesOf names draft
named_empty names draft is = record {
  splits = sym (ap (λ (d : DraftView). length d.splits) is ∙ length-replicate (length names.splits) None);
  workers = sym (ap (λ (d : DraftView). length d.workers) is ∙ length-replicate (length names.workers) None);
}

-- the runs stay in the table when a wave starts
holds_started : (old : Session) (starts : List (Option ℕ)) (wave : Wave) (job : Job)
    → IsCommitted old.master starts wave job → HoldsRuns old.given old.master → HoldsRuns old.given job
holds_started old starts wave job committed holds =
    let done : Performed old.script.names 0 old.master command.Wave []
    (wave_lines old.script.names starts wave) job =
    record {
      out = wave_lines old.script.names starts wave;
      performs = record { plan = starts; wave = wave; committed = committed; out_is = refl };
      written = refl;
    } in
    holds_runs old.given done (λ e. cc) holds

-- it is open after a turn that leaves the head
pub ready_moved : (old new : Session) → new.known ≡ old.known → new.script ≡ old.script
    → new.master.setup ≡ old.master.setup → HoldsRuns new.given new.master
    → AreNamesOf new.script.names new.draft → IfSome new.last (λ a. Certifies (claim_of a)) → IsOpen old
    → IsOpen new
ready_moved old new known script same given draft certified ready = record {
  given = given;
  named = named_kept (live_of old) (live_of new) known (ap (λ (s : Script). s.names) script) same ready.named;
  draft = draft;
  certified = certified;
}

-- it is open after a wave that was started and kept
pub ready_started : (old : Session) (a : Audited) (wave : Wave) (job : Job) (draft : DraftView)
    → IsCommitted old.master a.plan.starts wave job → a.problem ≡ problem_of old.master.setup old.master.state
    → Certifies (present old.master a.plan.starts a.prices) → AreNamesOf old.script.names draft → IsOpen old
    → IsOpen (record old { master = job; last = Some a; draft = draft })
ready_started old a wave job draft committed found certified named ready =
    ready_moved old (record old { master = job; last = Some a; draft = draft }) refl refl committed.next.setup
    (holds_started old a.plan.starts wave job committed ready.given) named
    (subst (λ (p : planned.Wave). Certifies (claim p a.plan.starts a.prices)) (sym found) certified) ready

-- or that was started and not kept
pub ready_unkept : (old : Session) (starts : List (Option ℕ)) (wave : Wave) (job : Job)
    → IsCommitted old.master starts wave job → IsOpen old → IsOpen (record old { master = job })
ready_unkept old starts wave job committed ready =
    ready_moved old (record old { master = job }) refl refl committed.next.setup
    (holds_started old starts wave job committed ready.given) ready.draft ready.certified ready

-- a wave's starts have numbers of 32 bits
pub numbers_fit : (old : Job) (starts : List (Option ℕ)) (wave : Wave) (new : Job) → AreAllowed old.setup.limits
    → IsCommitted old starts wave new → wave.first + length (pairs_of starts) ≤ 2 ^ 32 - 1
numbers_fit old starts wave new small committed =
    let room = committed.change.room in
    let first = committed.change.first_is in
    let most = small.attempts in
    grind arith

-- ---- a request

-- each word of a request is short
pub request_short : (line : Line) → IsRequest line → length line < 524288
request_short line (request.Workers, is) = omega (arith, ap length is)
request_short line (request.Open, is) = omega (arith, ap length is)
request_short line (request.Outputs, is) = omega (arith, ap length is)
request_short line (request.Audit, is) = omega (arith, ap length is)
request_short line (request.Commit, is) = omega (arith, ap length is)
request_short line (request.Drop, is) = omega (arith, ap length is)

pub long_none : (line : Line) → 524288 ≤ length line → ¬ (IsRequest line)
long_none line long is = omega (arith, request_short line is)

-- the text of the last wave is one that a check certifies
pub told_audit : (s : Session) (a : Audited) (before now text : List ℕ) → s.last ≡ Some a
    → Certifies (claim_of a) → TellsWave text a.problem a.plan.starts a.prices → now ≡ before ++ text
    → Told s request.Audit before now
told_audit s a before now text last certified told written =
    let read = told.read in
    record {
      out = text;
      written = written;
      told = subst (λ (last : Option Audited). AnswersAudit (option_map claim_of last) text) (sym last)
          (inl (record {
            told = told;
            certified = subst (λ (starts : List (Option ℕ)).
                Certifies (claim read.problem starts read.prices))
                (sym told.starts)
                (subst (λ (prices : PriceList). Certifies (claim read.problem a.plan.starts prices))
                (sym told.prices)
                (same_certifies read.problem a.problem a.plan.starts a.prices told.same certified));
          }));
    }

-- ---- a line

module _ (live : Live) (line : Line) (s : Statement) (named : IsNamedBy live)
    (fit : IsFitLine live.known line s) where
  -- one that is no `end` is a command with all its words
  pub whole_line : s.keyword ≢ End → IsWholeCommand live.names s
  whole_line other = subst (λ (names : Names). IsWholeCommand names s) (sym named.told)
      (ready_line live.known line s fit named.playing named.body other)

  few_workers : length (rows_of Worker live.known.rows) ≤ 32768
  few_workers = omega (
    arith,
    ap (λ (n : Names). length n.workers) named.told,
    length-map (rows_of Worker live.known.rows) (nth_word 0),
    named.few.workers,
  )

  pub known_command : (c : Command) → SaysCommand live.names s c → IsKnownCommand live.job.setup c
  known_command c says =
      subst (λ (n : ℕ). IsKnownIn (length live.job.setup.cluster.slots) n c) named.splits
      (subst (λ (n : ℕ). IsKnownIn n (length live.names.splits) c) named.workers
      (known_line live.known line s fit named.playing named.body few_workers live.names c says))

module _ (old new : Session) (s : Statement) (before now : List ℕ) where
  pub obeys_command : (c : Command) → SaysCommand old.script.names s c → PerformedLive old c before now new
      → Obeys old s More before now new
  obeys_command c says done = record {
    out = done.out;
    written = done.written;
    replies = λ line fit short. inl (record {
      short = short;
      statement = s;
      command = c;
      fit = fit;
      says = says;
      performs = done.performs;
      head = done.head;
    });
  }

  pub obeys_end : (finish : PlayEnd) → s.keyword ≡ End → live_of new ≡ live_of old
      → Ended old.script.names old.master finish before now → Obeys old s Last before now new
  obeys_end finish is same ended = record {
    out = ended.out;
    written = ended.written;
    replies = λ line fit short. record {
      statement = s;
      finish = finish;
      fit = fit;
      is_end = is;
      ends = ended.ends;
      unchanged = same;
    };
  }

module _ (old new : Session) (line : Line) (before now : List ℕ) where
  pub hears_obeyed : (s : Statement) (turn : Turn) → length line < 524288 → IsFitLine old.known line s
      → Obeys old s turn before now new → Hears old line turn before now new
  hears_obeyed s turn short fit obeys = record {
    out = obeys.out;
    written = obeys.written;
    replies = obeys.replies line fit short;
  }

  pub hears_told : (request : Request) → line ≡ word_of request → live_of new ≡ live_of old
      → Told old request before now → Hears old line More before now new
  hears_told request is same told = record {
    out = told.out;
    written = told.written;
    replies = inr (inr (inl (record {
      request = request;
      line_is = is;
      told = told.told;
      unchanged = same;
    })));
  }

  pub hears_commit : (turn : Turn) → line ≡ word_of request.Commit →
      (turn ≡ More) × Committed old before now new
      → Hears old line turn before now new
  hears_commit turn is done =
      let hears : Hears old line More before now new = record {
        out = done.1.out;
        written = done.1.written;
        replies = elim (done.1.goes_on line is) [
          | inl commits ↦ inr (inl commits)
          | inr lacks ↦ inr (inr (inr (inr (inr (inl lacks)))))
        ];
      } in
      subst (λ (t : Turn). Hears old line t before now new) (sym done.0) hears

  pub hears_drop : line ≡ word_of request.Drop
      → live_of new ≡ record (live_of old) { draft = no_draft old.script.names } → now ≡ before
      → Hears old line More before now new
  hears_drop is head same = record {
    out = [];
    written = same ∙ sym (append-nil before);
    replies = inr (inr (inr (inr (inr (inr (record { line_is = is; out_is = refl; head = head }))))));
  }

  pub hears_drafted : (s : Statement) → IsPlanLine old.known line s
      → (IsSaid old.script.names old.draft s → ⊥)
      → live_of new ≡ record (live_of old) { draft = said old.script.names old.draft s } → now ≡ before
      → Hears old line More before now new
  hears_drafted s is fresh head same = record {
    out = [];
    written = same ∙ sym (append-nil before);
    replies = inr (inr (inr (inr (inl (record {
      statement = s;
      is_line = is;
      fresh = fresh;
      out_is = refl;
      head = head;
    })))));
  }

  module _ (none : ¬ (IsRequest line)) where
    pub hears_fault : (fault : Fault) → IsFaultOf (live_of old) line fault → live_of new ≡ live_of old
        → now ≡ before ++ refusal_line fault → Hears old line More before now new
    hears_fault fault is same written = record {
      out = refusal_line fault;
      written = written;
      replies = inr (inr (inr (inl (record {
        no_request = none;
        fault = fault;
        is_fault = is;
        out_is = refl;
        unchanged = same;
      }))));
    }

    pub hears_refused : (fault : Fault) → IsFaultOf (live_of old) line fault → live_of new ≡ live_of old
        → (turn : Turn)
        → (turn ≡ More) × (now ≡ before ++ refusal_line fault) → Hears old line turn before now new
    hears_refused fault is same turn said =
        subst (λ (t : Turn). Hears old line t before now new) (sym said.0) (hears_fault fault is same said.1)

  pub replies_heard : (turn : Turn) → before ≡ [] → Hears old line turn before now new
      → Replies (live_of old) line turn now (live_of new)
  replies_heard turn none hears =
      subst (λ (out : List ℕ). Replies (live_of old) line turn out (live_of new))
      (sym (hears.written ∙ ap (λ (text : List ℕ). text ++ hears.out) none)) hears.replies
