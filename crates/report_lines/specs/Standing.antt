-- What stands: a line for each worker, the lines of all work that is not done, and a line for each split that
-- is done. A number past the last name has the empty name.
use Rattle.std.specs.Prelude.{ℕ, List, [], ◌∷◌, ◌++◌, Option, Some, None, codes, if◌then◌else◌, length}
use Rattle.std.specs.Prelude.{slice_index_or}
use Rattle.std.specs.Fmt.{decimal}
use Rattle.std.specs.List.{flat_map, range_with_len}
use Rattle.text_lines.specs.Texts.{Word, name_of}
use Rattle.worker_table.specs.Workers.{Workers, worker_at}
use Rattle.worker_table.specs.declared.Worker.{Worker}
use Rattle.master_state.specs.declared.states.Attempt.{Attempt}
use Rattle.master_state.specs.declared.states.SplitState.{SplitState}
use Rattle.master_state.specs.declared.states.SplitState.TheVariants.{Pending, Running, Done}
use Rattle.master_state.specs.declared.states.PartState.{PartState}
use Rattle.master_state.specs.declared.states.PartState.TheVariants as part
use Rattle.report_lines.specs.Lines.{backup_line, dead_line, open_line, reduce_line, started_line}

-- ---- workers

-- its slots, how many of them are taken, and how many sweeps in a row brought no new beat
abbrev pub live_line : List Word → ℕ → Worker → List ℕ
live_line workers w worker =
    codes "live " ++ name_of workers w ++ codes " " ++ decimal worker.slots ++ codes " "
    ++ decimal worker.taken ++ codes " " ++ decimal worker.silence ++ 10 ∷ []

abbrev pub standing_line : List Word → ℕ → Worker → List ℕ
standing_line workers w worker = if worker.live then live_line workers w worker else dead_line workers w

-- each worker, by number
abbrev pub workers_lines : List Word → Workers → List ℕ
workers_lines workers table =
    flat_map (λ w. standing_line workers w (worker_at table w)) (range_with_len 0 (length table.each))

-- ---- what is not done

abbrev pub backup_lines : List Word → List Word → ℕ → Option Attempt → List ℕ
backup_lines splits workers split None = []
backup_lines splits workers split (Some a) = backup_line splits workers a.number split a.worker

-- a split: pending, or with the attempts that it runs, the older one first
abbrev pub open_split : List Word → List Word → ℕ → SplitState → List ℕ
open_split splits workers split Pending = open_line splits split
open_split splits workers split (Running a other) =
    started_line splits workers a.number split a.worker ++ backup_lines splits workers split other
open_split splits workers split (Done a) = []

abbrev pub part_line : ℕ → List ℕ
part_line r = codes "part " ++ decimal r ++ 10 ∷ []

-- a part: pending, or with the attempt that it runs
abbrev pub open_part : List Word → ℕ → PartState → List ℕ
open_part workers r part.Pending = part_line r
open_part workers r (part.Running a) = reduce_line workers a.number r a.worker
open_part workers r part.Done = []

-- each by number
abbrev pub open_split_lines : List Word → List Word → List SplitState → List ℕ
open_split_lines splits workers states =
    flat_map (λ s. open_split splits workers s (slice_index_or states s Pending))
    (range_with_len 0 (length states))

abbrev pub open_part_lines : List Word → List PartState → List ℕ
open_part_lines workers states =
    flat_map (λ r. open_part workers r (slice_index_or states r part.Pending))
    (range_with_len 0 (length states))

-- ---- outputs

-- a done split, the attempt by which it is done, and the worker on which that ran
abbrev pub from_line : List Word → List Word → ℕ → Attempt → List ℕ
from_line splits workers split a =
    codes "from " ++ name_of splits split ++ codes " " ++ decimal a.number ++ codes " "
    ++ name_of workers a.worker ++ 10 ∷ []

abbrev pub output_of : List Word → List Word → ℕ → SplitState → List ℕ
output_of splits workers split (Done a) = from_line splits workers split a
output_of splits workers split state = []

-- each by number of split
abbrev pub output_lines : List Word → List Word → List SplitState → List ℕ
output_lines splits workers states =
    flat_map (λ s. output_of splits workers s (slice_index_or states s Pending))
    (range_with_len 0 (length states))
