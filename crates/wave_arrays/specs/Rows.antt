-- What the numbers of a caller's arrays say, and which of them say something.
use Rattle.std.specs.Prelude.{ℕ, ◌+◌, ◌<◌, ◌≤◌, ◌==◌, not, List, length, map, fold}
use Rattle.std.specs.Prelude.{All, Contains, slice_range, ◌↔◌}
use Rattle.node_ids.specs.Sets.{HasPair, no_pairs, with_pair}
use Rattle.rack_tree.specs.Tree.{Tree}
use Rattle.rack_tree.specs.declared.TheConstants.{MAX_CENTRES, MAX_RACKS, MAX_WORKERS}
use Rattle.wave_problem.specs.declared.TheConstants.{MAX_HOLDERS, MAX_SLOTS, MAX_BYTES, MAX_SPLITS}
use Rattle.wave_problem.specs.declared.lines.WorkerLine.{WorkerLine}
use Rattle.wave_problem.specs.Wave.{IsHeldWell, Split, Wave, wave_from}
use Rattle.wave_arrays.specs.declared.TheConstants.{MAX_NARROW_SPLITS}
use Rattle.wave_arrays.specs.declared.array_rows.WorkerRow.{WorkerRow}
use Rattle.wave_arrays.specs.declared.array_rows.SplitRow.{SplitRow}
use Rattle.wave_arrays.specs.declared.array_rows.PairRow.{PairRow}
use Rattle.wave_arrays.specs.declared.array_rows.WidePairRow.{WidePairRow}
use Rattle.wave_arrays.specs.declared.array_rows.NarrowWave.{NarrowWave}
use Rattle.wave_arrays.specs.declared.array_rows.WideWave.{WideWave}
use Rattle.wave_arrays.specs.declared.array_rows.BarredRows.{BarredRows}
use Rattle.wave_arrays.specs.declared.array_rows.BarredRows.TheVariants.{Narrow, Wide}
use Rattle.wave_arrays.specs.declared.array_rows.WaveRows.{WaveRows}

-- ---- narrow and wide

-- the rows of a wave whose pairs have numbers of 16 bits, and of one whose pairs have numbers of 32
abbrev pub narrow_rows : NarrowWave → WaveRows
narrow_rows wave = record {
  centres = wave.centres;
  centre_of = wave.centre_of;
  workers = wave.workers;
  splits = wave.splits;
  holders = wave.holders;
  barred = Narrow wave.barred;
}

abbrev pub wide_rows : WideWave → WaveRows
wide_rows wave = record {
  centres = wave.centres;
  centre_of = wave.centre_of;
  workers = wave.workers;
  splits = wave.splits;
  holders = wave.holders;
  barred = Wide wave.barred;
}

-- how many splits there are at most
abbrev pub most_splits : BarredRows → ℕ
most_splits (Narrow rows) = MAX_NARROW_SPLITS
most_splits (Wide rows) = MAX_SPLITS

-- a pair of narrow rows among wide ones
abbrev pub widened : PairRow → WidePairRow
widened pair = record { split = pair.split; worker = pair.worker }

-- the barred pairs
abbrev pub pairs_in : BarredRows → List WidePairRow
pairs_in (Narrow rows) = map widened rows.now
pairs_in (Wide rows) = rows.now

-- ---- what the rows say

-- a worker: 0 says that it is dead, any other number that it lives
abbrev pub worker_of : WorkerRow → WorkerLine
worker_of row = record { live = not (row.live == 0); free = row.free }

-- a split, whose holders stand in the array of all holders from a place on; 0 says that it does not wait
abbrev pub split_of : List ℕ → SplitRow → Split
split_of holders row = record {
  bytes = row.bytes;
  pending = not (row.pending == 0);
  holders = slice_range holders row.first_holder (row.first_holder + row.holder_count);
}

-- the racks with their centres, and the rack of each worker
abbrev pub tree_in : WaveRows → Tree
tree_in rows = record {
  centres = rows.centres;
  centre_of = rows.centre_of.now;
  rack_of = map (λ row. row.rack) rows.workers.now;
}

-- the pair of the split s and the worker w is one of these
abbrev pub IsListed : List WidePairRow → ℕ → ℕ → Type 0
IsListed pairs s w = Contains pairs (record { split = s; worker = w })

-- the set of these pairs, with a row for each of so many splits; `the_barred_are_those_listed` says which they
-- are
abbrev pub barred_in : ℕ → List WidePairRow → List (List ℕ)
barred_in splits pairs = fold (λ set pair. with_pair set pair.split pair.worker) (no_pairs splits) pairs

-- the wave that the rows make
abbrev pub wave_in : WaveRows → Wave
wave_in rows = wave_from (tree_in rows) (map worker_of rows.workers.now)
    (map (split_of rows.holders.now) rows.splits.now)
    (barred_in (length rows.splits.now) (pairs_in rows.barred))

-- ---- which rows make one

-- the centres and racks are few enough, and each rack stands in one of the centres
pub record AreRacksFit (rows : WaveRows) : Type 0 where
  pub few_centres : rows.centres ≤ MAX_CENTRES
  pub few : length rows.centre_of.now ≤ MAX_RACKS
  pub known : All (λ centre. centre < rows.centres) rows.centre_of.now

-- the workers are few enough, and each stands in one of the racks, with few enough slots
pub record AreWorkersFit (rows : WaveRows) : Type 0 where
  pub few : length rows.workers.now ≤ MAX_WORKERS
  pub known : All (λ row. row.rack < length rows.centre_of.now) rows.workers.now
  pub slots : All (λ row. row.free ≤ MAX_SLOTS) rows.workers.now

-- a split has few bytes, and few holders that stand in the array of so many holders
pub record IsSplitFit (holders : ℕ) (row : SplitRow) : Type 0 where
  pub bytes : row.bytes ≤ MAX_BYTES
  pub few : row.holder_count ≤ MAX_HOLDERS
  pub within : row.first_holder + row.holder_count ≤ holders

-- the splits are few enough, and each is fit
pub record AreSplitsFit (rows : WaveRows) : Type 0 where
  pub few : length rows.splits.now ≤ most_splits rows.barred
  pub each : All (IsSplitFit (length rows.holders.now)) rows.splits.now

-- a pair is of one of the splits and one of the workers
pub record IsPairKnown (splits workers : ℕ) (pair : WidePairRow) : Type 0 where
  pub split : pair.split < splits
  pub worker : pair.worker < workers

-- so is each barred pair
abbrev pub AreBarsFit : WaveRows → Type 0
AreBarsFit rows = All (IsPairKnown (length rows.splits.now) (length rows.workers.now)) (pairs_in rows.barred)

-- the holders of each split are workers, none of them twice
abbrev pub AreHoldersFit : WaveRows → Type 0
AreHoldersFit rows = All
    (λ row. IsHeldWell (length rows.workers.now) (split_of rows.holders.now row)) rows.splits.now

-- rows of all kinds are fit
pub record AreFit (rows : WaveRows) : Type 0 where
  pub racks : AreRacksFit rows
  pub workers : AreWorkersFit rows
  pub splits : AreSplitsFit rows
  pub barred : AreBarsFit rows
  pub holders : AreHoldersFit rows

-- ---- a law

-- of pairs of so many splits, one is barred just where it is listed
abbrev pub TheBarredAreThoseListed : Type 0
TheBarredAreThoseListed = (splits workers : ℕ) (pairs : List WidePairRow) → All (IsPairKnown splits workers) pairs
    → (s w : ℕ) → HasPair (barred_in splits pairs) s w ↔ IsListed pairs s w
