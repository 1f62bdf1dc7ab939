-- Waves that differ in the slots of their workers, or in their pending splits.
use Rattle.std.specs.Prelude.{ℕ, ◌≡◌, ◌≢◌, ◌≤◌, All, Bool, List, false, length, map, zip}
use Rattle.wave_problem.specs.declared.TheConstants.{MAX_SLOTS}
use Rattle.wave_problem.specs.declared.lines.WorkerLine.{WorkerLine}
use Rattle.wave_problem.specs.Wave.{worker_at, worker_in, Split, Wave}
use Rattle.tree_flow.specs.Slots.{with_workers}

-- In these lines the same workers live, and none has fewer slots. Those of a dead worker are the same.
pub record HasMore (wave : Wave) (lines : List WorkerLine) : Type 0 where
  pub size : length lines ≡ length wave.workers
  pub live : (w : ℕ) → (worker_in lines w).live ≡ (worker_at wave w).live
  pub more : (w : ℕ) → (worker_at wave w).free ≤ (worker_in lines w).free
  pub dead : (w : ℕ) → (worker_in lines w).live ≡ false → (worker_in lines w).free ≡ (worker_at wave w).free
  pub most : All (λ line. line.free ≤ MAX_SLOTS) lines

-- in the second wave the workers have at most the slots that they have in the first, and all else is the same
pub record IsHeldBack (old new : Wave) : Type 0 where
  pub rest : new ≡ with_workers old new.workers
  pub more : HasMore new old.workers

-- the line of a worker is this one now, and all else is the same
pub record HasLine (old new : Wave) (w : ℕ) (line : WorkerLine) : Type 0 where
  pub rest : new ≡ with_workers old new.workers
  pub size : length new.workers ≡ length old.workers
  pub here : worker_at new w ≡ line
  pub others : (x : ℕ) → x ≢ w → worker_at new x ≡ worker_at old x

-- the splits, of which just these are pending
abbrev pub flagged : List Split → List Bool → List Split
flagged splits pending = map (λ pair. record pair.0 { pending = pair.1 }) (zip splits pending)

-- the wave with these workers, in which just these splits are pending
abbrev pub turned : Wave → List WorkerLine → List Bool → Wave
turned wave lines pending = record wave { workers = lines; splits = flagged wave.splits pending }

-- a split, whether it is pending or not
abbrev pub bare : Split → Split
bare split = record split { pending = false }

-- waves of one tree, with as many workers, and with the same bytes, holders and bars, which can differ in
-- their workers' lines and in which splits are pending
pub record HasSameGround (old new : Wave) : Type 0 where
  pub tree : new.tree ≡ old.tree
  pub workers : length new.workers ≡ length old.workers
  pub splits : map bare new.splits ≡ map bare old.splits
  pub barred : new.barred ≡ old.barred
