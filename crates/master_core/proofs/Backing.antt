-- What a backup has that is not refused, and on which worker it may start.
use Rattle.std.proofs.Common.{◌≡◌, ℕ, ◌<◌, ◌||◌, not, length, Bool, true, false, List, [], ◌∷◌, None, Some, ap, ◌∙◌}
use Rattle.std.proofs.Common.{arith, refl}
use Rattle.std.specs.Prelude.{vec_capacity}
use Rattle.std.specs.List.{list_any}
use Rattle.std.proofs.lemmas.Bool.{and_from, and_parts, not-false, not-true, not_from_false, not_from_true, or_from, or_parts}
use Rattle.std.proofs.lemmas.Bool.{true≢false}
use Rattle.worker_table.specs.Workers.{free_slots, has_free_slot, is_barred, is_live, worker_at}
use Rattle.block_map.specs.Holdings.{holders_of}
use Rattle.master_state.specs.Tests.{is_pending}
use Rattle.master_state.specs.declared.answers.Why.{Why}
use Rattle.master_state.specs.States.{Setup, State}
use Rattle.master_state.specs.Tests.{split_at}
use Rattle.master_state.specs.Refusals.{Backup, first_true, has_no_room, reasons, refusal, takes_backup}
use Rattle.master_state.specs.Jobs.{Job}
use Rattle.master_state.proofs.Reasons.{NoneApplies, attempts_left, none_applies}
use Rattle.master_state.proofs.Starting.{free_parts}
use Rattle.master_core.specs.declared.master.Master.TheInside.{Inside}
use Rattle.master_core.specs.Backups.{IsBackupWorker, IsLowestBelow, is_spare}
use Rattle.master_core.specs.Inside.{setup_of, state_of, job_of, IsMaster}

-- a place for its attempt, and a slot
pub record MayBack (m : Inside) (w : ℕ) : Type 0 where
  pub room : length m.starts.items < vec_capacity m.starts
  pub free : 0 < free_slots m.workers w

pub may_back : {m : Inside} {j : Job} (split w : ℕ) → IsMaster m → job_of m ≡ j →
    refusal j.setup j.state (Backup split w) ≡ None → MayBack m w
may_back {m = m} split w was is none =
    let tests = none_applies (reasons (setup_of m) (state_of m) (Backup split w))
    (ap (λ (i : Job). refusal i.setup i.state (Backup split w)) is ∙ none) in
    let left = attempts_left (setup_of m) (state_of m) 1 tests.1.1.1.1.0 in
    let held = list_any (is_live m.workers) (holders_of m.holders split) in
    let has = has_free_slot (worker_at m.workers w) in
    let pending = list_any is_pending (state_of m).splits in
    let parts = or_parts (pending || not held) (not has) tests.1.1.0 in
    let slot = free_parts m.workers w (not-false has parts.1) in
    record {
      room = omega (arith, left.1, was.room.attempts);
      free = omega (arith, slot.1);
    }

-- where no test is true, there is no reason
none_refuses : (reasons : List (Bool × Why)) → NoneApplies reasons → first_true reasons ≡ None
none_refuses [] none = refl
none_refuses ((true, why) ∷ others) none = absurd (true≢false none.0)
none_refuses ((false, why) ∷ others) none = none_refuses others none.1

-- a worker that may take the split is spare for it
spare_if : (setup : Setup) (s : State) (split w : ℕ) → refusal setup s (Backup split w) ≡ None →
    is_spare s split w ≡ true
spare_if setup s split w none =
    let tests = none_applies (reasons setup s (Backup split w)) none in
    let takes = not-false (takes_backup w (split_at s split)) tests.1.0 in
    let free = not-false (has_free_slot (worker_at s.workers w)) (or_parts _ _ tests.1.1.0).1 in
    and_from _ _ takes (and_from _ _ free (not_from_false (is_barred s.workers split w) tests.1.1.1.0))

-- and a spare worker may take it if any worker may
spare_may : (setup : Setup) (s : State) (split v w : ℕ) → refusal setup s (Backup split v) ≡ None →
    is_spare s split w ≡ true → refusal setup s (Backup split w) ≡ None
spare_may setup s split v w none spare =
    let tests = none_applies (reasons setup s (Backup split v)) none in
    let both = and_parts (takes_backup w (split_at s split)) _ spare in
    let rest = and_parts (has_free_slot (worker_at s.workers w)) (not (is_barred s.workers split w)) both.1 in
    let live = (free_parts s.workers w rest.0).0 in
    none_refuses (reasons setup s (Backup split w)) (
      not_from_true (is_live s.workers w) live,
      (
        not_from_true (takes_backup w (split_at s split)) both.0,
        (
          or_from _ _ (or_parts _ _ tests.1.1.0).0 (not_from_true (has_free_slot (worker_at s.workers w)) rest.0),
          (not-true (is_barred s.workers split w) rest.1, (tests.1.1.1.1.0, tt)),
        ),
      ),
    )

module _ (job : Job) (split : ℕ) where
  abbrev pub Spare : ℕ → Type 0
  Spare w = is_spare job.state split w ≡ true

  -- the lowest spare worker is the lowest on which it may start, if it may there
  pub backup_there : (n w : ℕ) → n ≡ length job.setup.cluster.slots → IsLowestBelow n Spare (Some w) →
      refusal job.setup job.state (Backup split w) ≡ None → IsBackupWorker job split (Some w)
  backup_there n w is lowest may = (
    omega (arith, is, lowest.0),
    may,
    λ v below none. lowest.2 v below (spare_if job.setup job.state split v none),
  )

  -- and else there is none
  pub backup_nowhere : (n w : ℕ) → IsLowestBelow n Spare (Some w) →
      (refusal job.setup job.state (Backup split w) ≡ None → ⊥) → IsBackupWorker job split None
  backup_nowhere n w lowest refused =
      λ v below none. refused (spare_may job.setup job.state split v w none lowest.1)

  pub no_backup : IsLowestBelow (length job.setup.cluster.slots) Spare None → IsBackupWorker job split None
  no_backup lowest = λ w below none. lowest w below (spare_if job.setup job.state split w none)
