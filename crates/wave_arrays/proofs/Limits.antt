-- The wave that rows make keeps to the limits.
use Rattle.std.proofs.Common.{ℕ, List, ◌≢◌, ◌<◌, ◌≤◌, ◌∙◌, arith, length, map, sym}
use Rattle.std.specs.Prelude.{All, AllPairs}
use Rattle.std.proofs.lemmas.List.{length-map, length-take}
use Rattle.std.proofs.lemmas.List.Elements.{All-map}
use Rattle.rack_tree.proofs.Distances.{within_reach}
use Rattle.wave_problem.specs.Wave.{IsWithinLimits, Split}
use Rattle.wave_problem.specs.declared.lines.WorkerLine.{WorkerLine}
use Rattle.wave_arrays.specs.declared.array_rows.BarredRows.{BarredRows}
use Rattle.wave_arrays.specs.declared.array_rows.BarredRows.TheVariants.{Narrow, Wide}
use Rattle.wave_arrays.specs.declared.array_rows.SplitRow.{SplitRow}
use Rattle.wave_arrays.specs.declared.array_rows.WaveRows.{WaveRows}
use Rattle.wave_arrays.specs.Rows.{AreFit, IsSplitFit, most_splits, split_of, tree_in, wave_in, worker_of}

few_holders : (holders : List ℕ) (row : SplitRow) → IsSplitFit (length holders) row
    → length (split_of holders row).holders ≤ 16
few_holders holders row fit = grind (arith, length-take)

few_splits : (rows : BarredRows) → most_splits rows ≤ 131072
few_splits (Narrow rows) = omega arith
few_splits (Wide rows) = omega arith

pub within_limits : (rows : WaveRows) → AreFit rows → IsWithinLimits (wave_in rows)
within_limits rows fit =
    let workers = length-map rows.workers.now worker_of in
    let lines = split_of rows.holders.now in
    record {
      near = within_reach (tree_in rows) fit.racks.known;
      few_splits = omega (arith, length-map rows.splits.now lines, fit.splits.few, few_splits rows.barred);
      few_workers = omega (arith, workers, fit.workers.few);
      one_line_each = workers ∙ sym (length-map rows.workers.now (λ row. row.rack));
      slots = All-map (λ (line : WorkerLine). line.free ≤ 255) worker_of rows.workers.now fit.workers.slots;
      bytes = All-map (λ (split : Split). split.bytes ≤ 8589934592) lines rows.splits.now
          (λ i d lt. (fit.splits.each i d lt).bytes);
      holders = All-map (λ (split : Split). length split.holders ≤ 16) lines rows.splits.now
          (λ i d lt. few_holders rows.holders.now _ (fit.splits.each i d lt));
      known = All-map
          (λ (split : Split). All (λ h. h < length (map worker_of rows.workers.now)) split.holders) lines
          rows.splits.now (λ i d lt j e below. rw workers ((fit.holders i d lt).known j e below));
      distinct = All-map (λ (split : Split). AllPairs (λ a b. a ≢ b) split.holders) lines rows.splits.now
          (λ i d lt. (fit.holders i d lt).once);
    }
