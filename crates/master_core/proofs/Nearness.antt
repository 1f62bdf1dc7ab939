-- What keeps an engine near.
use Rattle.std.proofs.Common.{[], ◌≡◌, ℕ, ◌≤◌, List, ◌∷◌, All, Bool, length, map, refl, sym, ap, ◌∙◌, subst}
use Rattle.std.proofs.Common.{arith}
use Rattle.std.specs.Prelude.{fold, zip}
use Rattle.std.proofs.lemmas.List.{length-map}
use Rattle.wave_problem.specs.declared.TheConstants.{MAX_SLOTS}
use Rattle.wave_problem.specs.declared.lines.WorkerLine.{WorkerLine}
use Rattle.wave_problem.specs.Wave.{Split, Wave, IsWithinLimits}
use Rattle.rack_tree.specs.Tree.{Tree}
use Rattle.tree_planner.specs.Going.{turned}
use Rattle.worker_table.specs.Bars.{Bars}
use Rattle.master_state.specs.declared.states.SplitState.{SplitState}
use Rattle.master_state.specs.States.{Cluster, State}
use Rattle.master_state.specs.Tests.{is_pending}
use Rattle.master_state.specs.Changes.{died, split_started}
use Rattle.master_state.specs.Steps.{problem_of, split_line, worker_line}
use Rattle.master_state.specs.Jobs.{Job}
use Rattle.master_state.proofs.BarRoom.{bars_died, bars_started}
use Rattle.master_state.proofs.Problems.{length-each, length-lines, within_limits}
use Rattle.master_state.proofs.Sweeping.{heard_state}
use Rattle.master_tables.specs.declared.entries.SplitEntry.{SplitEntry}
use Rattle.master_tables.specs.Entries.{shown_as}
use Rattle.master_tables.specs.Lines.{split_lines}
use Rattle.master_core.specs.declared.kept.Kept.{Kept}
use Rattle.master_core.specs.declared.master.Master.TheInside.{Inside}
use Rattle.master_core.specs.Inside.{setup_of, state_of, job_of, HasNearEngine, IsMaster}
use Rattle.master_core.specs.declared.touched.Touched.{Touched}
use Rattle.master_core.specs.Near.{flags_of, HasPlaces, IsNear}
use Rattle.master_core.proofs.Accepting.{still_master}

pub length-flags : (entries : List SplitEntry) → length (flags_of entries) ≡ length entries
length-flags entries = length-map (map shown_as entries) is_pending ∙ length-map entries shown_as

-- starts bar nothing
pub bars_same : (s : State) {next : State} (pairs : List (ℕ × ℕ)) →
    fold (λ now pair. split_started now pair.0 pair.1) s pairs ≡ next → next.workers.barred ≡ s.workers.barred
bars_same s pairs is = sym (ap (λ (x : State). x.workers.barred) is) ∙ bars_started s pairs

-- with the same barred pairs the engine is as near
pub near_with_bars : (kept : Kept) (cluster : Cluster) (holders : List (List ℕ)) {old new : Bars} →
    new ≡ old → IsNear kept cluster holders old → IsNear kept cluster holders new
near_with_bars kept cluster holders same near =
    subst (λ (bars : Bars). IsNear kept cluster holders bars) (sym same) near

-- and where nobody dies, nothing changes
pub near_swept : (s : State) (counts : List ℕ) (old new : Kept) (cluster : Cluster) (dead : List ℕ)
    (next : State) →
    ((cluster : Cluster) (before after : List (List ℕ)) (barred : Bars) → IsNear old cluster before barred →
    (dead ≡ [] → after ≡ before) → IsNear new cluster after barred) →
    IsNear old cluster s.holders s.workers.barred →
    fold died (heard_state s counts) dead ≡ next →
    IsNear new cluster next.holders next.workers.barred
near_swept s counts old new cluster dead next far near is =
    near_with_bars new cluster next.holders
    (sym (ap (λ (x : State). x.workers.barred) is) ∙ bars_died (heard_state s counts) dead)
    (far cluster s.holders next.holders s.workers.barred near
    (λ none. sym (ap (λ (x : State). x.holders) is)
    ∙ ap (λ those. (fold died (heard_state s counts) those).holders) none))

-- a master with another engine
pub with_engine : {m : Inside} → IsMaster m → (engine : Kept) (touched : Touched) →
    HasNearEngine (record m { engine = engine; touched = touched }) →
    IsMaster (record m { engine = engine; touched = touched })
with_engine was engine touched near = still_master was refl was.kept was.made near

-- the wave of the present state is near
pub present_is_near : {m : Inside} {j : Job} (wave : Wave) → IsMaster m → job_of m ≡ j →
    wave ≡ problem_of j.setup j.state → HasPlaces wave m.cluster m.holders m.workers.barred
present_is_near {m = m} wave was is made =
    let here : wave ≡ problem_of (setup_of m) (state_of m) =
    made ∙ ap (λ (i : Job). problem_of i.setup i.state) (sym is) in
    record {
      tree = ap (λ (x : Wave). x.tree) here;
      states = map shown_as m.splits.items;
      sizes = was.kept.tidy.splits;
      splits = ap (λ (x : Wave). x.splits) here;
      barred_are = ap (λ (x : Wave). x.barred) here;
    }

-- the lines of splits, in other states
relined : (lines : List Split) (old new : List SplitState) (holders : List (List ℕ)) →
    length old ≡ length new →
    map (λ pair. record pair.0 { pending = pair.1 })
    (zip (split_lines lines old holders) (map is_pending new))
    ≡ split_lines lines new holders
relined [] old new holders same = refl
relined (line ∷ lines) [] [] holders same = refl
relined (line ∷ lines) [] (n ∷ new) holders same = absurd (omega (arith, same))
relined (line ∷ lines) (o ∷ old) [] holders same = absurd (omega (arith, same))
relined (line ∷ lines) (o ∷ old) (n ∷ new) [] same = refl
relined (line ∷ lines) (o ∷ old) (n ∷ new) (h ∷ holders) same =
    ap (λ (rest : List Split). split_line line n h ∷ rest)
    (relined lines old new holders (omega (arith, same)))

-- What an engine is told to keep up: the lines of the workers, and which splits are pending.
module _ {m : Inside} {wave : Wave} (was : IsMaster m)
    (near : HasPlaces wave m.cluster m.holders m.workers.barred) where
  abbrev pub lines_in : List WorkerLine
  lines_in = map worker_line m.workers.each

  abbrev pub flags_in : List Bool
  flags_in = map is_pending (map shown_as m.splits.items)

  pub turned_is : turned wave lines_in flags_in ≡ problem_of (setup_of m) (state_of m)
  turned_is =
      let states : length near.states ≡ length (map shown_as m.splits.items) =
      near.sizes ∙ sym was.kept.tidy.splits in
      rw (
        near.tree,
        near.splits,
        near.barred_are,
        relined m.cluster.splits near.states (map shown_as m.splits.items) m.holders states,
      ) refl

  pub many_lines : IsWithinLimits wave → length lines_in ≡ length wave.workers
  many_lines within =
      length-map m.workers.each worker_line
      ∙ sym (length-each (setup_of m) (state_of m) was.kept.whole was.kept.tidy)
      ∙ sym (ap (λ (t : Tree). length t.rack_of) near.tree) ∙ sym within.one_line_each

  pub few_free : All (λ line. line.free ≤ MAX_SLOTS) lines_in
  few_free = (within_limits (setup_of m) (state_of m) was.kept.whole was.kept.tidy).slots

  pub many_flags : length flags_in ≡ length wave.splits
  many_flags =
      length-map (map shown_as m.splits.items) is_pending ∙ was.kept.tidy.splits
      ∙ sym (ap length near.splits
      ∙ length-lines m.cluster.splits near.states m.holders near.sizes was.kept.tidy.holders)
