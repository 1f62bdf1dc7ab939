-- The runs of a part that is started.
use Rattle.std.proofs.Common.{ℕ, ◌<◌, List, [], ◌∷◌, ◌++◌, length, sym, ap, ◌∙◌, subst, arith, All, inl, inr}
use Rattle.std.proofs.Common.{length-set, get_or-set_same, get_or-set_other}
use Rattle.std.specs.Prelude.{slice_set}
use Rattle.std.proofs.lemmas.Bool.{cases_eq}
use Rattle.std.proofs.lemmas.List.Elements.{All-push}
use Rattle.master_state.specs.declared.answers.Reply.{Reply}
use Rattle.master_state.specs.declared.states.Start.{Start}
use Rattle.master_state.specs.declared.states.Work.{Work}
use Rattle.master_state.specs.declared.states.Work.TheVariants as works
use Rattle.master_state.specs.States.{Setup, State}
use Rattle.master_state.specs.Tests.{next_part, next_worker}
use Rattle.master_state.specs.Refusals.{ReduceStart, reasons}
use Rattle.master_state.specs.Jobs.{Job, IsAccepted, IsReply, IsKept}
use Rattle.master_state.proofs.Reasons.{none_applies}
use Rattle.master_core.proofs.PartStarts.{reducible_from}
use Rattle.job_play.specs.Given.{Runs, AreRunsFor, HasRuns, HoldsRuns}

has_put : (setup : Setup) (table : List Runs) (part : ℕ) (runs : Runs) (work : Work) → part < length table →
    AreRunsFor setup part runs → HasRuns setup table work → HasRuns setup (slice_set table part runs) work
has_put setup table part runs (works.Split split) inside are has = tt
has_put setup table part runs (works.Part r) inside are has = elim (cases_eq r part) [
  | inl same ↦ rw (same, get_or-set_same table part runs [] inside) are
  | inr other ↦ rw (get_or-set_other table part r runs [] other) has
]

-- an accepted start of a part, whose runs are put into the table
pub holds_put : (old new : Job) (table : List Runs) (place : ℕ) (reply : Reply) → IsReply old reply →
    IsAccepted old ReduceStart place new → reply.part < length table → HoldsRuns table old →
    HoldsRuns (slice_set table reply.part reply.runs.items) new
holds_put old new table place reply is accepted inside holds =
    let setup = old.setup in
    let now : List Runs = slice_set table reply.part reply.runs.items in
    let are : AreRunsFor setup reply.part reply.runs.items =
    record { of_part = is.of_part; texts = is.texts } in
    let start : Start = record { work = works.Part (next_part old.state); worker = next_worker old.state } in
    let here : HasRuns setup now (works.Part reply.part) =
    rw (get_or-set_same table reply.part reply.runs.items [] inside) are in
    let all : All (λ (one : Start). HasRuns setup now one.work) (old.state.starts ++ start ∷ []) =
    All-push (λ (one : Start). HasRuns setup now one.work) old.state.starts start
    (λ k d within. has_put setup table reply.part reply.runs.items _ inside are (holds.each k d within))
    (subst (λ (r : ℕ). HasRuns setup now (works.Part r)) is.part here) in
    record {
      parts = length-set table reply.part reply.runs.items ∙ holds.parts
          ∙ ap (λ (s : Setup). s.cluster.parts) (sym accepted.next.setup);
      each = subst (λ (s : Setup). All (λ (one : Start). HasRuns s now one.work) new.state.starts)
          (sym accepted.next.setup)
          (subst (λ (s : State). All (λ (one : Start). HasRuns setup now one.work) s.starts)
          (sym accepted.change.leads) all);
    }

-- the part that starts has its place in the table
pub part_waits : (old new : Job) (table : List Runs) (place : ℕ) (reply : Reply) → IsKept old →
    IsReply old reply → IsAccepted old ReduceStart place new → HoldsRuns table old →
    reply.part < length table
part_waits old new table place reply kept is accepted holds =
    let ready = (none_applies (reasons old.setup old.state ReduceStart) accepted.change.allowed).0 in
    let known = (reducible_from old.state ready).part in
    omega (arith, known, kept.tidy.parts, holds.parts, is.part)
