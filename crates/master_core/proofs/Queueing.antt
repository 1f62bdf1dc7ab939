-- A master after it started the heads of a plan ahead; and the problem with queues.
use Rattle.std.proofs.Common.{◌≡◌, ℕ, ◌+◌, ◌<◌, ◌≤◌, List, [], ◌∷◌, ◌++◌, length, false, All, get_or, Option, sym, ap}
use Rattle.std.proofs.Common.{◌∙◌, refl, subst, arith}
use Rattle.std.specs.Prelude.{fold}
use Rattle.std.proofs.lemmas.List.{append-nil}
use Rattle.wave_problem.specs.declared.TheConstants.{MAX_SLOTS}
use Rattle.wave_problem.specs.declared.lines.WorkerLine.{WorkerLine}
use Rattle.wave_problem.specs.Wave.{Wave, IsWithinLimits, wave_from}
use Rattle.wave_problem.specs.Assignment.{IsAssignment, IsBest, pairs_of, start_of, total}
use Rattle.wave_problem.proofs.Bound.{live_known, pending_known}
use Rattle.wave_problem.proofs.Pairs.{pairs_started}
use Rattle.price_certificate.specs.Certificate.{Certifies, claim}
use Rattle.price_certificate.specs.PriceList.{PriceList}
use Rattle.price_certificate.specs.declared.Condition.TheVariants.{Allowed, Open}
use Rattle.master_state.specs.declared.answers.Wave.{Wave as Started}
use Rattle.master_state.specs.declared.events.Event.TheVariants as events
use Rattle.master_state.specs.Refusals.{has_no_room}
use Rattle.master_state.specs.Changes.{split_started}
use Rattle.master_state.specs.Steps.{AreHeads, problem_of, queue_lines, with_places}
use Rattle.master_state.specs.Jobs.{Job, IsCommittedAhead}
use Rattle.master_state.proofs.Ahead.{heads_assigned, queued_slots}
use Rattle.master_state.proofs.Keeping.{aheads_keep}
use Rattle.master_core.specs.declared.ahead.Queued.{Queued}
use Rattle.master_core.specs.declared.master.Master.TheInside.{Inside}
use Rattle.master_core.specs.Inside.{setup_of, state_of, job_of, HasNearEngine, IsMaster}
use Rattle.master_core.specs.Queues.{IsQueuePlan, queue_problem}
use Rattle.master_tables.specs.Kept.{AreOfSplits}
use Rattle.master_core.proofs.Accepting.{Rooms, leads_to, rooms_of, still_master}
use Rattle.master_core.proofs.Heads.{length-queue}

-- the heads are an assignment of the present state
pub queue_assigned : (j : Job) (asked : List ℕ) (queued : Queued) → IsQueuePlan j asked queued →
    IsAssignment (problem_of j.setup j.state) (pairs_of queued.heads.starts)
queue_assigned j asked queued plan =
    heads_assigned (problem_of j.setup j.state) asked queued.planned.plan.starts queued.heads.starts
    queued.planned.prices plan.queued_is.certifies plan.heads

-- so the heads were committed
pub committed_ahead : (old new : Inside) (j : Job) (asked : List ℕ) (queued : Queued) (wave : Started) →
    job_of old ≡ j → IsQueuePlan j asked queued →
    has_no_room j.setup j.state wave.count ≡ false → wave.first ≡ length old.starts.items + 1 →
    wave.count ≡ queued.totals.count → wave.cost ≡ queued.totals.cost →
    rooms_of new ≡ rooms_of old →
    new.history.items ≡ old.history.items ++ events.Ahead wave.first wave.count wave.cost ∷ [] →
    wave.place ≡ length old.history.items + 1 →
    fold (λ now pair. split_started now pair.0 pair.1) (state_of old) (pairs_of queued.heads.starts)
    ≡ record (state_of new) { events = length old.history.items } →
    new.results.items ≡ old.results.items →
    IsCommittedAhead (job_of old) asked queued.planned.plan.starts queued.heads.starts wave (job_of new)
committed_ahead old new j asked queued wave is plan free first count cost rooms history place change results =
    let pairs = pairs_of queued.heads.starts in
    let here = subst (λ (i : Job). IsQueuePlan i asked queued) (sym is) plan in
    let many : wave.count ≡ length pairs = count ∙ plan.totals.count in
    record {
      change = record {
        best = here.queued_is.best;
        priced = (queued.planned.prices, here.queued_is.certifies);
        heads = here.heads;
        room = ap (λ (i : Job). has_no_room i.setup i.state (length pairs)) is
            ∙ ap (has_no_room j.setup j.state) (sym many) ∙ free;
        first_is = first;
        count_is = many;
        cost_is = cost ∙ here.totals.cost;
        leads = leads_to old new _ _ history change;
      };
      next = record {
        place_is = place;
        setup = ap (λ (of : Rooms). of.setup) rooms;
        history = history;
        results = results ∙ sym (append-nil old.results.items);
      };
    }

-- as a caller sees it
pub seen_ahead : (old new : Inside) (j : Job) (asked : List ℕ) (queued : Queued) (wave : Started) →
    job_of old ≡ j →
    IsCommittedAhead (job_of old) asked queued.planned.plan.starts queued.heads.starts wave (job_of new) →
    IsCommittedAhead j asked queued.planned.plan.starts queued.heads.starts wave (job_of new)
seen_ahead old new j asked queued wave is committed =
    subst (λ (i : Job). IsCommittedAhead i asked queued.planned.plan.starts queued.heads.starts wave (job_of new)) is
    committed

-- and the master is one still
pub queues_keep : (old new : Inside) (asked : List ℕ) (queued : Queued) (wave : Started) → IsMaster old →
    IsCommittedAhead (job_of old) asked queued.planned.plan.starts queued.heads.starts wave (job_of new) →
    rooms_of new ≡ rooms_of old → AreOfSplits (setup_of old) new.splits.items → HasNearEngine new →
    IsMaster new
queues_keep old new asked queued wave was committed rooms made near =
    still_master was rooms
    (aheads_keep (job_of old) (job_of new) asked queued.planned.plan.starts queued.heads.starts wave was.kept
    committed)
    made near

-- ---- the problem with queues

-- it keeps to the limits where the present problem does
pub queue_within : (asked : List ℕ) (wave : Wave) → All (λ n. n ≤ MAX_SLOTS) asked → IsWithinLimits wave →
    IsWithinLimits (with_places asked wave)
queue_within asked wave few within =
    let same = length-queue asked wave.workers in
    record {
      near = within.near;
      few_splits = within.few_splits;
      few_workers = omega (arith, same, within.few_workers);
      one_line_each = same ∙ within.one_line_each;
      slots = queued_slots asked wave.workers few within.slots;
      bytes = within.bytes;
      holders = within.holders;
      known = subst (λ n. All (λ split. All (λ h. h < n) split.holders) wave.splits) (sym same) within.known;
      distinct = within.distinct;
    }

-- each pair of heads is of a split and a worker of the problem
pub heads_known : (wave : Wave) (lines : List WorkerLine) (plan starts : List (Option ℕ)) (prices : PriceList) →
    Certifies (claim wave plan prices) → AreHeads lines plan starts →
    All (λ pair. (pair.0 < length wave.splits) × (pair.1 < length wave.workers)) (pairs_of starts)
heads_known wave lines plan starts prices certifies heads k d l =
    let pair = get_or (pairs_of starts) k d in
    let start = heads.of_plan pair.0 pair.1 (pairs_started starts k d l) in (
      pending_known wave pair.0 (certifies (Open pair.0) (rw start refl)).0,
      live_known wave pair.1 (certifies (Allowed pair.0 pair.1) start).0,
    )
