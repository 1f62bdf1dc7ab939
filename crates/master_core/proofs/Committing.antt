-- A master after a wave that it committed.
use Rattle.std.proofs.Common.{◌≡◌, ℕ, ◌+◌, List, [], ◌∷◌, ◌++◌, length, map, false, Bool, sym, ap}
use Rattle.std.proofs.Common.{◌∙◌, subst}
use Rattle.std.specs.Prelude.{fold}
use Rattle.std.proofs.lemmas.List.{append-nil}
use Rattle.wave_problem.specs.Assignment.{IsAssignment, IsBest, pairs_of, total}
use Rattle.master_state.specs.declared.answers.Wave.{Wave}
use Rattle.master_state.specs.declared.events.Event.TheVariants as events
use Rattle.master_state.specs.Refusals.{has_no_room}
use Rattle.master_state.specs.Changes.{after_wave, split_started}
use Rattle.master_state.specs.Steps.{HasPrices, problem_of}
use Rattle.master_state.specs.Jobs.{Job, IsCommitted}
use Rattle.master_state.proofs.Reasons.{attempts_left}
use Rattle.master_state.proofs.Waves.{are_starts}
use Rattle.master_state.proofs.Keeping.{waves_keep}
use Rattle.master_core.specs.declared.master.Master.TheInside.{Inside}
use Rattle.master_tables.specs.Entries.{shown_as}
use Rattle.master_core.specs.Inside.{setup_of, state_of, job_of, HasNearEngine, IsMaster}
use Rattle.master_core.specs.Starts.{AreCommitted, ArePriced}
use Rattle.master_tables.specs.Kept.{AreOfSplits}
use Rattle.master_tables.specs.Starting.{MayStart}
use Rattle.master_core.proofs.Accepting.{Rooms, leads_to, rooms_of, still_master}
use Rattle.master_tables.proofs.Starts.{may_start_of}

-- what is asked of a plan, of what the master keeps
abbrev best_in : Job → List (ℕ × ℕ) → Type 0
best_in j pairs = IsBest (problem_of j.setup j.state) pairs

abbrev no_room_in : Job → ℕ → Bool
no_room_in j count = has_no_room j.setup j.state count

abbrev assigned_in : Job → List (ℕ × ℕ) → Type 0
assigned_in j pairs = IsAssignment (problem_of j.setup j.state) pairs

-- the pairs of an assignment may start, and so may the pairs of a best plan
pub assigned_may_start : {m : Inside} {j : Job} {pairs : List (ℕ × ℕ)} {count : ℕ} → IsMaster m →
    job_of m ≡ j → assigned_in j pairs → count ≡ length pairs → no_room_in j count ≡ false →
    MayStart m.workers (map shown_as m.splits.items) pairs
assigned_may_start {m = m} {j = j} {pairs = pairs} was is assigned many free =
    may_start_of (setup_of m) (state_of m) pairs
    (are_starts (setup_of m) (state_of m) pairs was.kept.tidy
    (subst (λ (i : Job). assigned_in i pairs) (sym is) assigned)
    (attempts_left (setup_of m) (state_of m) (length pairs)
    (ap (λ (i : Job). no_room_in i (length pairs)) is ∙ ap (no_room_in j) (sym many) ∙ free)).1)

pub best_may_start : {m : Inside} {j : Job} {pairs : List (ℕ × ℕ)} {count : ℕ} → IsMaster m → job_of m ≡ j →
    best_in j pairs → count ≡ length pairs → no_room_in j count ≡ false →
    MayStart m.workers (map shown_as m.splits.items) pairs
best_may_start was is best many free = assigned_may_start was is best.assignment many free

-- any plan of the starts that prices certify was committed
pub starts_committed : (old new : Inside) (j : Job) (pairs : List (ℕ × ℕ)) (wave : Wave) → job_of old ≡ j →
    best_in j pairs → no_room_in j wave.count ≡ false → wave.first ≡ length old.starts.items + 1 →
    wave.count ≡ length pairs → wave.cost ≡ total (problem_of j.setup j.state) pairs →
    rooms_of new ≡ rooms_of old →
    new.history.items ≡ old.history.items ++ events.Wave wave.first wave.count wave.cost ∷ [] →
    wave.place ≡ length old.history.items + 1 →
    fold (λ now pair. split_started now pair.0 pair.1) (state_of old) pairs
    ≡ record (state_of new) { events = length old.history.items } →
    new.results.items ≡ old.results.items → AreCommitted j pairs wave (job_of new)
starts_committed old new j pairs wave is best free first count cost rooms history place change results =
    λ plan same priced.
    let committed : IsCommitted (job_of old) plan wave (job_of new) = record {
      change = record {
        best = subst (λ (ps : List (ℕ × ℕ)). best_in (job_of old) ps) (sym same)
            (subst (λ (i : Job). best_in i pairs) (sym is) best);
        priced = subst (λ (i : Job). HasPrices i.setup i.state plan) (sym is) priced;
        room = ap (λ (i : Job). no_room_in i (length (pairs_of plan))) is
            ∙ ap (no_room_in j) (ap length same ∙ sym count) ∙ free;
        first_is = first;
        count_is = count ∙ ap length (sym same);
        cost_is = cost ∙ ap (λ (i : Job). total (problem_of i.setup i.state) pairs) (sym is)
            ∙ ap (total (problem_of (setup_of old) (state_of old))) (sym same);
        leads = leads_to old new _ _ history change ∙ ap (after_wave (state_of old)) (sym same);
      };
      next = record {
        place_is = place;
        setup = ap (λ (of : Rooms). of.setup) rooms;
        history = history;
        results = results ∙ sym (append-nil old.results.items);
      };
    } in
    subst (λ (i : Job). IsCommitted i plan wave (job_of new)) is committed

-- and the master is one still
pub commits : (old new : Inside) (j : Job) (pairs : List (ℕ × ℕ)) (wave : Wave) → IsMaster old → job_of old ≡ j →
    ArePriced j pairs → AreCommitted j pairs wave (job_of new) → rooms_of new ≡ rooms_of old →
    AreOfSplits (setup_of old) new.splits.items → HasNearEngine new → IsMaster new
commits old new j pairs wave was is (plan, same, priced) committed rooms made near =
    still_master was rooms
    (waves_keep (job_of old) (job_of new) plan wave was.kept
    (subst (λ (i : Job). IsCommitted i plan wave (job_of new)) (sym is) (committed plan same priced)))
    made near
