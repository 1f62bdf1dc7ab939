-- The lines of a history: each event that was accepted, in its order, by the names of the job. They are the
-- words of a script's commands, and those of a report where attempts are started.
use Rattle.std.specs.Prelude.{ℕ, ◌+◌, ◌-◌, List, [], ◌∷◌, ◌++◌, Option, Some, None, codes, slice_get}
use Rattle.std.specs.Prelude.{slice_index_or}
use Rattle.std.specs.Fmt.{decimal}
use Rattle.std.specs.List.{flat_map, range_with_len}
use Rattle.text_lines.specs.Texts.{Word, name_of, numbers_of}
use Rattle.master_state.specs.declared.events.Event.{Event}
use Rattle.master_state.specs.declared.events.Event.TheVariants as events
use Rattle.master_state.specs.declared.states.Start.{Start}
use Rattle.master_state.specs.declared.states.Work.{Work}
use Rattle.master_state.specs.declared.states.Work.TheVariants as work
use Rattle.report_lines.specs.Lines.{ahead_line, backup_line, reduce_line, started_line}
use Rattle.text_lines.specs.WaveLine.{wave_line}

-- what has become of an attempt
abbrev pub attempt_line : List ℕ → ℕ → List ℕ
attempt_line word attempt = word ++ decimal attempt ++ 10 ∷ []

-- a worker, alone
abbrev pub worker_line : List ℕ → List Word → ℕ → List ℕ
worker_line word workers w = word ++ name_of workers w ++ 10 ∷ []

-- a split and a worker
abbrev pub pair_line : List ℕ → List Word → List Word → ℕ → ℕ → List ℕ
pair_line word splits workers split w =
    word ++ name_of splits split ++ codes " " ++ name_of workers w ++ 10 ∷ []

-- a worker, then the splits of a set, in whose row they rise
abbrev pub join_line : List Word → List Word → ℕ → List ℕ → List ℕ
join_line splits workers w set =
    codes "join " ++ name_of workers w ++ flat_map (λ split. 32 ∷ name_of splits split) set ++ 10 ∷ []

-- the count of each worker, by number
abbrev pub sweep_line : List Word → List ℕ → List ℕ
sweep_line workers counts =
    codes "sweep" ++ flat_map (λ w. 32 ∷ decimal (slice_index_or counts w 0)) (numbers_of workers) ++ 10 ∷ []

abbrev pub sweep_lines : List Word → Option (List ℕ) → List ℕ
sweep_lines workers None = []
sweep_lines workers (Some counts) = sweep_line workers counts

-- the start of an attempt
abbrev pub work_line : List Word → List Word → ℕ → Work → ℕ → List ℕ
work_line splits workers attempt (work.Split split) w = started_line splits workers attempt split w
work_line splits workers attempt (work.Part part) w = reduce_line workers attempt part w

abbrev pub start_line : List Word → List Word → ℕ → Option Start → List ℕ
start_line splits workers attempt None = []
start_line splits workers attempt (Some start) = work_line splits workers attempt start.work start.worker

-- the starts of so many attempts, from the first one on; those of all attempts are given
abbrev pub start_lines : List Word → List Word → List Start → ℕ → ℕ → List ℕ
start_lines splits workers starts first count =
    flat_map (λ n. start_line splits workers (first + n) (slice_get starts (first + n - 1)))
    (range_with_len 0 count)

abbrev pub event_lines : List Word → List Word → List Start → List (List ℕ) → Event → List ℕ
event_lines splits workers starts sweeps (events.Wave first count cost) =
    wave_line count cost ++ start_lines splits workers starts first count
event_lines splits workers starts sweeps (events.Ahead first count cost) =
    ahead_line count cost ++ start_lines splits workers starts first count
event_lines splits workers starts sweeps (events.MapDone a) = attempt_line (codes "done ") a
event_lines splits workers starts sweeps (events.MapFailed a) = attempt_line (codes "fail ") a
event_lines splits workers starts sweeps (events.Withdraw a) = attempt_line (codes "withdraw ") a
event_lines splits workers starts sweeps (events.Die w) = worker_line (codes "die ") workers w
event_lines splits workers starts sweeps (events.Join w set) = join_line splits workers w set
event_lines splits workers starts sweeps (events.Add split w) =
    pair_line (codes "add ") splits workers split w
event_lines splits workers starts sweeps (events.Lose split w) =
    pair_line (codes "lose ") splits workers split w
event_lines splits workers starts sweeps (events.Sweep place) =
    sweep_lines workers (slice_get sweeps (place - 1))
event_lines splits workers starts sweeps (events.ReduceStart a part w) = reduce_line workers a part w
event_lines splits workers starts sweeps (events.PartDone a) = attempt_line (codes "done ") a
event_lines splits workers starts sweeps (events.PartFailed a) = attempt_line (codes "fail ") a
event_lines splits workers starts sweeps (events.Backup a split w) = backup_line splits workers a split w

-- the names of the splits and workers; the starts of all attempts, the counts of all sweeps, the events
abbrev pub history_lines : List Word → List Word → List Start → List (List ℕ) → List Event → List ℕ
history_lines splits workers starts sweeps history =
    flat_map (event_lines splits workers starts sweeps) history
