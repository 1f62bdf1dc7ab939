-- Where a master finds what runs an attempt.
use Rattle.std.proofs.Common.{◌≡◌, ℕ, ◌<◌, List, length, map, get_or, Bool, true, false}
use Rattle.std.proofs.Common.{not, Some, None, ap, ◌∙◌, sym, arith, subst}
use Rattle.std.specs.Prelude.{if◌then◌else◌, slice_index_or}
use Rattle.std.proofs.lemmas.List.{get_or-map, get_or_default, length-map}
use Rattle.std.proofs.lemmas.List.FromFn.{length-range_with_len}
use Rattle.master_state.specs.declared.states.Work.{Work}
use Rattle.master_state.specs.declared.states.Work.TheVariants as works
use Rattle.master_state.specs.declared.states.SplitState.TheVariants as states
use Rattle.master_state.specs.declared.states.PartState.{PartState}
use Rattle.master_state.specs.declared.states.PartState.TheVariants as part
use Rattle.master_state.specs.States.{State, start_of}
use Rattle.master_state.specs.Tests.{runs, part_runs, split_at, part_at}
use Rattle.master_state.specs.Refusals.{no_split_runs, no_part_runs}
use Rattle.master_state.specs.Tidy.{IsTidy}
use Rattle.master_state.specs.Jobs.{Job}
use Rattle.master_state.proofs.Places.{none_unstarted, no_split_is, no_part_is, no_split_of_part, start_on}
use Rattle.master_state.proofs.Places.{no_part_of_split}
use Rattle.master_state.proofs.Running.{start_known}
use Rattle.master_tables.specs.declared.entries.SplitEntry.{SplitEntry}
use Rattle.master_core.specs.declared.attempts.Found.TheVariants.{Split, Part, Nowhere}
use Rattle.master_core.specs.declared.master.Master.TheInside.{Inside}
use Rattle.master_core.specs.Attempts.{IsFound}
use Rattle.master_tables.specs.Entries.{shown_as}
use Rattle.master_core.specs.Inside.{state_of, job_of, IsMaster}
use Rattle.master_tables.specs.Places.{split_of, part_of}

-- an element that is read shows at its place in a list of what its like show
pub at_mapped : {X Y : Type 0} (f : X → Y) (xs : List X) (k : ℕ) (x : X) (d : Y) → k < length xs →
    x ≡ get_or xs k x → f x ≡ slice_index_or (map f xs) k d
at_mapped f xs k x d inside at = ap f at ∙ sym (get_or-map f xs k x d inside)

-- what the work of a start is
pub of_split : (work : Work) {k : ℕ} → split_of work ≡ Some k → work ≡ works.Split k
of_split (works.Split split) is = cc
of_split (works.Part r) is = cc

pub of_part : (work : Work) {k : ℕ} → part_of work ≡ Some k → work ≡ works.Part k
of_part (works.Split split) is = cc
of_part (works.Part r) is = cc

pub start_for : (s : State) (a : ℕ) {w : ℕ} {work told : Work} → start_of s a ≡ Some (start_on work w) →
    work ≡ told → start_of s a ≡ Some (start_on told w)
start_for s a {w = w} start is = start ∙ ap (λ (x : Work). Some (start_on x w)) is

module _ {m : Inside} {j : Job} (was : IsMaster m) (is : job_of m ≡ j) where
  pub tidy_at : IsTidy j.setup j.state
  tidy_at = subst (λ (i : Job). IsTidy i.setup i.state) is was.kept.tidy

  -- an attempt that was never started runs nowhere
  pub unstarted : (a : ℕ) → start_of j.state a ≡ None → IsFound j.state a Nowhere
  unstarted a start = none_unstarted j.setup j.state a tidy_at start

  module _ (a k w : ℕ) (start : start_of j.state a ≡ Some (start_on (works.Split k) w)) where
    -- the split of a start is in a master's list, and has its text
    pub split_in_list : k < length m.splits.items
    split_in_list =
        let known : k < length j.setup.cluster.splits =
        (start_known j.setup j.state a (start_on (works.Split k) w) tidy_at start).work in
        let here : k < length m.cluster.splits =
        subst (λ (i : Job). k < length i.setup.cluster.splits) (sym is) known in
        omega (arith, here, was.kept.tidy.splits, length-map m.splits.items shown_as)

    pub text_known : k < length m.cluster.texts
    text_known = omega (
      arith,
      split_in_list,
      was.kept.tidy.splits,
      length-map m.splits.items shown_as,
      length-map m.cluster.texts (λ text. text.split),
      ap length was.kept.whole.texts,
      length-range_with_len 0 (length m.cluster.splits),
    )

    -- the entry that a master reads there shows what the split does
    pub entry_at : {i : ℕ} {entry : SplitEntry} → i ≡ k → entry ≡ get_or m.splits.items i entry →
        shown_as entry ≡ split_at (state_of m) k
    entry_at {entry = entry} place at =
        let here : entry ≡ get_or m.splits.items k entry = rw place at at in
        at_mapped shown_as m.splits.items k entry states.Pending split_in_list here

    split_told : (b : Bool) → b ≡ runs a (split_at j.state k) → no_split_runs j.state a ≡ not b →
        IsFound j.state a (if b then Split (record { split = k; worker = w }) else Nowhere)
    split_told true here none = (
      record { start = start; runs = sym here },
      none,
      no_part_of_split j.setup j.state a k w tidy_at start,
    )
    split_told false here none = (none, no_part_of_split j.setup j.state a k w tidy_at start)

    -- the split runs it where its entry says so, and else nothing does
    pub split_found : (b : Bool) {i : ℕ} {entry : SplitEntry} → i ≡ k →
        entry ≡ get_or m.splits.items i entry → b ≡ runs a (shown_as entry) →
        IsFound j.state a (if b then Split (record { split = k; worker = w }) else Nowhere)
    split_found b place at ran =
        let here = ran ∙ ap (runs a) (entry_at place at)
        ∙ ap (λ (l : Job). runs a (split_at l.state k)) is in
        split_told b here (no_split_is j.setup j.state a k w tidy_at start ∙ ap not (sym here))

  -- an attempt of a part is found in the list of parts, too
  module _ (a r w : ℕ) (start : start_of j.state a ≡ Some (start_on (works.Part r) w)) where
    pub part_in_list : r < length m.parts.items
    part_in_list =
        let known : r < j.setup.cluster.parts =
        (start_known j.setup j.state a (start_on (works.Part r) w) tidy_at start).work in
        let here : r < m.cluster.parts = subst (λ (i : Job). r < i.setup.cluster.parts) (sym is) known in
        omega (arith, here, was.kept.tidy.parts)

    part_told : (b : Bool) → b ≡ part_runs a (part_at j.state r) → no_part_runs j.state a ≡ not b →
        IsFound j.state a (if b then Part (record { part = r; worker = w }) else Nowhere)
    part_told true here none = (
      record { start = start; runs = sym here },
      no_split_of_part j.setup j.state a r w tidy_at start,
      none,
    )
    part_told false here none = (no_split_of_part j.setup j.state a r w tidy_at start, none)

    pub part_found : (b : Bool) {i : ℕ} {state : PartState} → i ≡ r → state ≡ get_or m.parts.items i state →
        b ≡ part_runs a state →
        IsFound j.state a (if b then Part (record { part = r; worker = w }) else Nowhere)
    part_found b {state = state} place at ran =
        let inside : state ≡ get_or m.parts.items r state = rw place at at in
        let here = ran ∙ ap (part_runs a) (inside ∙ get_or_default m.parts.items r state part.Pending
        part_in_list)
        ∙ ap (λ (l : Job). part_runs a (part_at l.state r)) is in
        part_told b here (no_part_is j.setup j.state a r w tidy_at start ∙ ap not (sym here))
