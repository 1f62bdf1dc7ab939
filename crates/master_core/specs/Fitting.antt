-- Waves that differ in the lines of some workers.
use Rattle.std.specs.Prelude.{ℕ, ◌≡◌, ◌<◌, ◌⊎◌, List, length}
use Rattle.std.specs.List.{Contains}
use Rattle.wave_problem.specs.declared.lines.WorkerLine.{WorkerLine}
use Rattle.wave_problem.specs.Wave.{worker_at, worker_in, Wave}
use Rattle.tree_flow.specs.Slots.{with_workers}
use Rattle.master_core.specs.declared.touched.Touched.{Touched}
use Rattle.master_core.specs.Near.{IsWorkerTouched}

-- the workers that are not listed have their lines still
abbrev pub AreOthersLined : Wave → Wave → List ℕ → Type 0
AreOthersLined old new listed = (w : ℕ) → Contains listed w ⊎ (worker_at new w ≡ worker_at old w)

-- a worker that is neither touched nor listed has its line of these
abbrev pub AreLinedBut : Wave → Touched → List ℕ → List WorkerLine → Type 0
AreLinedBut wave touched listed lines = (w : ℕ) →
    IsWorkerTouched touched w ⊎ (Contains listed w ⊎ (worker_at wave w ≡ worker_in lines w))

-- the workers have other lines, and all else is the same
pub record HasOtherLines (old new : Wave) : Type 0 where
  pub rest : new ≡ with_workers old new.workers
  pub size : length new.workers ≡ length old.workers

-- a worker that is listed, or that had its line of these before, has it now
abbrev pub AreFitAmong : Wave → Wave → List ℕ → List WorkerLine → Type 0
AreFitAmong old new listed lines = (w : ℕ) → w < length old.workers →
    Contains listed w ⊎ (worker_at old w ≡ worker_in lines w) → worker_at new w ≡ worker_in lines w
