use Rattle.std.proofs.Common.{◌≡◌, ℕ, ◌<◌, List, length, map}
use Rattle.wave_problem.specs.Wave.{IsAdmissible, Split, Wave}
use Rattle.master_state.specs.Steps.{worker_line}
use Rattle.master_tables.specs.Entries.{shown_as}
use Rattle.master_tables.specs.Lines.{split_lines}
use Rattle.master_tables.proofs.lines.may_any_start.Given as goal

abbrev pub invariant-loop-i : goal.invariant-loop-i
invariant-loop-i l =
    (wave : Wave) (lines : List Split) (split w : ℕ) → length l.entries ≡ length lines →
    wave.workers ≡ map worker_line l.table.each → wave.barred ≡ l.table.barred.rows →
    wave.splits ≡ split_lines lines (map shown_as l.entries) l.holders → split < l.i →
    IsAdmissible wave split w → ⊥
