-- Results that are handed in, and attempts that run no more.
use Rattle.std.proofs.Common.{[], ◌≡◌, ℕ, zero, suc, ◌<◌, List, length, true, false, not, Some, refl, ap, ◌∙◌}
use Rattle.std.proofs.Common.{subst, arith, get_or}
use Rattle.std.proofs.lemmas.List.{length-map}
use Rattle.std.proofs.lemmas.List.FromFn.{length-range_with_len}
use Rattle.std.proofs.lemmas.Option.{get_or_from_slice_get, slice_get_within, none-some}
use Rattle.std.specs.Prelude.{slice_get, slice_index_or}
use Rattle.std.specs.Arc.{arc_value}
use Rattle.std.specs.declared.alloc.Global.{Global}
use Rattle.std.specs.declared.sync.Arc.{Arc}
use Rattle.word_map.specs.Texts.{SplitDocuments}
use Rattle.shuffle_reduce.specs.Gather.{values_of}
use Rattle.master_core.proofs.Found.{at_mapped}
use Rattle.master_state.specs.declared.answers.Answer.TheVariants as answer
use Rattle.master_state.specs.declared.answers.Why.TheVariants.{OldAttempt}
use Rattle.master_state.specs.declared.states.PartState.{PartState}
use Rattle.master_state.specs.declared.states.PartState.TheVariants as part
use Rattle.master_state.specs.declared.states.SplitState.{SplitState}
use Rattle.master_state.specs.declared.states.SplitState.TheVariants.{Pending}
use Rattle.master_state.specs.declared.states.Start.{Start}
use Rattle.master_state.specs.declared.states.Work.TheVariants as works
use Rattle.master_state.specs.States.{start_of}
use Rattle.master_state.specs.Tests.{runs, part_runs, split_at, part_at}
use Rattle.master_state.specs.Refusals.{no_split_runs, no_part_runs, split_text}
use Rattle.master_state.specs.Jobs.{Job, IsKept}
use Rattle.master_state.proofs.Places.{no_split_is, no_part_is}
use Rattle.master_state.proofs.Running.{start_known}
use Rattle.job_play.specs.Given.{Runs, AreRunsFor, HasRuns, HoldsRuns, runs_at}
use Rattle.job_play.specs.Handing.{HandsSplit, HandsPart}

-- what was started for a split or a part has its place
pub text_inside : (job : Job) (a split w : ℕ) → IsKept job →
    start_of job.state a ≡ Some (record { work = works.Split split; worker = w }) →
    split < length job.setup.cluster.texts
text_inside job a split w kept start =
    let known : split < length job.setup.cluster.splits =
    (start_known job.setup job.state a (record { work = works.Split split; worker = w }) kept.tidy
    start).work in
    omega (
      arith,
      known,
      length-map job.setup.cluster.texts (λ text. text.split),
      ap length kept.whole.texts,
      length-range_with_len 0 (length job.setup.cluster.splits),
    )

pub part_inside : (job : Job) (a r w : ℕ) → IsKept job →
    start_of job.state a ≡ Some (record { work = works.Part r; worker = w }) → r < job.setup.cluster.parts
part_inside job a r w kept start =
    (start_known job.setup job.state a (record { work = works.Part r; worker = w }) kept.tidy start).work

-- the runs that the attempt of a part was given stand in the table
pub runs_given : (job : Job) (table : List Runs) (a r w : ℕ) → HoldsRuns table job →
    start_of job.state a ≡ Some (record { work = works.Part r; worker = w }) →
    AreRunsFor job.setup r (runs_at table r)
runs_given job table zero r w holds start = absurd (none-some _ start)
runs_given job table (suc a) r w holds start =
    let starts = job.state.starts in
    let one : Start = record { work = works.Part r; worker = w } in
    subst (λ (found : Start). HasRuns job.setup table found.work)
    (get_or_from_slice_get starts a one one start)
    (holds.each a one (slice_get_within starts a one start))

-- an attempt that its split, or its part, does not run is an old one
pub old_split : (job : Job) (a split w : ℕ) (state : SplitState) → IsKept job →
    start_of job.state a ≡ Some (record { work = works.Split split; worker = w }) →
    slice_get job.state.splits split ≡ Some state → runs a state ≡ false →
    HandsSplit job a split (answer.Ignored OldAttempt tt) job
old_split job a split w state kept start here none =
    let at : split_at job.state split ≡ state =
    get_or_from_slice_get job.state.splits split state Pending here in
    let old : no_split_runs job.state a ≡ true =
    no_split_is job.setup job.state a split w kept.tidy start
    ∙ ap (λ (one : SplitState). not (runs a one)) at ∙ ap not none in
    record {
      result = record { text = split_text job.setup split; parts = job.setup.cluster.parts };
      text = refl;
      parts = refl;
      answers = record { refused = rw old refl; same = refl };
    }

pub old_part : (job : Job) (a r w : ℕ) (state : PartState) → IsKept job →
    start_of job.state a ≡ Some (record { work = works.Part r; worker = w }) →
    slice_get job.state.parts r ≡ Some state → part_runs a state ≡ false →
    HandsPart job a r (answer.Ignored OldAttempt tt) job
old_part job a r w state kept start here none =
    let at : part_at job.state r ≡ state =
    get_or_from_slice_get job.state.parts r state part.Pending here in
    let old : no_part_runs job.state a ≡ true =
    no_part_is job.setup job.state a r w kept.tidy start
    ∙ ap (λ (one : PartState). not (part_runs a one)) at ∙ ap not none in
    record {
      result = record {
        texts = job.setup.cluster.texts;
        part = r;
        parts = job.setup.cluster.parts;
        pairs = [];
      };
      part_is = refl;
      parts = refl;
      texts = λ text. (λ h. h, λ h. h);
      answers = record { refused = rw old refl; same = refl };
    }

-- the text at a place of a list of pointers
pub text_at : (texts : List (Arc SplitDocuments Global)) (given : List SplitDocuments) (i k : ℕ)
    (one : Arc SplitDocuments Global) (d : SplitDocuments) → values_of texts ≡ given → i ≡ k →
    one ≡ get_or texts i one → k < length given → arc_value one ≡ slice_index_or given k d
text_at texts given i k one d same place at inside =
    let here : one ≡ get_or texts k one = rw place at at in
    let many : length (values_of texts) ≡ length texts =
    length-map texts (λ (text : Arc SplitDocuments Global). arc_value text) in
    at_mapped (λ (text : Arc SplitDocuments Global). arc_value text) texts k one d
    (omega (arith, inside, ap length same, many)) here
    ∙ ap (λ (xs : List SplitDocuments). slice_index_or xs k d) same
