-- The turns of the calling thread.
use Rattle.std.specs.Prelude.{ℕ, ◌+◌, ◌-◌, ◌%◌, ◌^◌, ◌==◌, ◌&&◌, ◌||◌, nat_le, nat_lt, min, not, Bool, ◌≡◌}
use Rattle.std.specs.Prelude.{true, false, List, Option, Some, None, if◌then◌else◌}
use Rattle.std.specs.List.{list_all}
use Rattle.master_state.specs.declared.answers.Glance.{Glance}
use Rattle.job_threads.specs.declared.gate.Turn.{Turn}
use Rattle.job_threads.specs.declared.gate.Turn.TheVariants.{On, Sweep, Backup}
use Rattle.job_threads.specs.declared.holdings.Holding.{Holding}
use Rattle.job_threads.specs.Watching.{HaveBeaten, WatchValue}

-- what the gate answered, and which number of idle turns it was told; of a sweep, whether it counts
pub record AskedValue : Type 0 where
  pub idle : ℕ
  pub turn : Turn
  pub is_due : Bool

-- a gate's sweep counts where the last one was at least the gate's gap ago, or there was none
abbrev pub is_due : Option ℕ → ℕ → Bool
is_due (Some since) gap = nat_le gap since
is_due None gap = true

-- in how many turns, one after the other, nothing started; it stays at the greatest number that a u64 has
abbrev pub idle_after : ℕ → Bool → ℕ
idle_after idle true = 0
idle_after idle false = min (idle + 1) (2 ^ 64 - 1)

-- nothing runs, and nothing can start
abbrev pub is_still : Glance → Bool
is_still glance = glance.running == 0 && (not glance.ready && not glance.reducible)

-- each dead worker was stopped, so that none joins again
abbrev pub none_may_rise : List Holding → Bool
none_may_rise workers = list_all (λ h. not (h.is_dead && not h.is_stopped)) workers

-- Nothing runs, nothing can start, each dead worker was stopped, and each worker that was not stopped has
-- beaten since the last sweep. Then another sweep finds silent only whom the gate stopped, and nobody joins:
-- it is made at once.
pub record IsPastHelp (glance : Glance) (workers : List Holding) (watch : WatchValue) : Type 0 where
  pub still : is_still glance ≡ true
  pub none_rises : none_may_rise workers ≡ true
  pub beaten : HaveBeaten watch workers

-- how many sweeps, one after the other, saw no dead worker rise while it was so: after a glance, and after a
-- sweep
abbrev pub quiet_after : ℕ → Glance → ℕ
quiet_after quiet glance = if is_still glance then quiet else 0

abbrev pub quiet_swept : ℕ → Bool → Bool → ℕ
quiet_swept quiet still true = 0
quiet_swept quiet true false = min (quiet + 1) (2 ^ 32 - 1)
quiet_swept quiet false false = quiet

-- all parts are done, or it was so through as many sweeps as a worker may be silent
abbrev pub has_ended : Glance → ℕ → ℕ → Bool
has_ended glance quiet silence =
    glance.open_parts == 0 || (is_still glance && nat_le silence quiet)

-- what the gate of a plain run answers
abbrev pub plain_turn : ℕ → Turn
plain_turn idle =
    if idle == 0 then On
    else if idle % 65536 == 0 then Sweep
    else if idle % 65536 == 32768 then Backup
    else On

-- for how many microseconds the calling thread naps in a turn: at each 64th idle one, and longer after many
abbrev pub nap_micros : ℕ → ℕ
nap_micros idle =
    if nat_lt idle 64 || not (idle % 64 == 0) then 0
    else if nat_lt idle 4096 then 50
    else 300
