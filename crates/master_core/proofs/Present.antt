-- The problem of a master's present state.
use Rattle.std.proofs.Common.{◌≡◌, ℕ, List, length, map, refl, sym, ap, ◌∙◌, subst}
use Rattle.rack_tree.specs.Tree.{Tree}
use Rattle.wave_problem.specs.declared.lines.WorkerLine.{WorkerLine}
use Rattle.wave_problem.specs.Wave.{Split, Wave, IsWithinLimits, wave_from}
use Rattle.master_state.specs.Steps.{problem_of, worker_line}
use Rattle.master_state.specs.Jobs.{Job}
use Rattle.master_state.proofs.Problems.{within_limits, length-splits}
use Rattle.master_core.specs.declared.master.Master.TheInside.{Inside}
use Rattle.master_tables.specs.Entries.{shown_as}
use Rattle.master_core.specs.Inside.{setup_of, state_of, job_of, IsMaster}
use Rattle.master_tables.specs.Lines.{split_lines}

-- its parts, as a master's tables have them
pub record AreParts (m : Inside) (tree : Tree) (workers : List WorkerLine) (splits : List Split)
    (barred : List (List ℕ)) : Type 0 where
  pub tree_is : tree ≡ m.cluster.tree
  pub workers_are : workers ≡ map worker_line m.workers.each
  pub splits_are : splits ≡ split_lines m.cluster.splits (map shown_as m.splits.items) m.holders
  pub barred_are : barred ≡ m.workers.barred.rows

pub problem_is : (m : Inside) (tree : Tree) (workers : List WorkerLine) (splits : List Split)
    (barred : List (List ℕ)) → AreParts m tree workers splits barred →
    wave_from tree workers splits barred ≡ problem_of (setup_of m) (state_of m)
problem_is m tree workers splits barred parts =
    rw (parts.tree_is, parts.workers_are, parts.splits_are, parts.barred_are) refl

pub parts_within : (m : Inside) (tree : Tree) (workers : List WorkerLine) (splits : List Split)
    (barred : List (List ℕ)) → IsMaster m → AreParts m tree workers splits barred →
    IsWithinLimits (wave_from tree workers splits barred)
parts_within m tree workers splits barred was parts =
    subst IsWithinLimits (sym (problem_is m tree workers splits barred parts))
    (within_limits (setup_of m) (state_of m) was.kept.whole was.kept.tidy)

-- it has the sizes of the cluster
pub splits_of_problem : (m : Inside) (j : Job) (problem : Wave) → IsMaster m → job_of m ≡ j →
    problem ≡ problem_of (setup_of m) (state_of m) → length problem.splits ≡ length j.setup.cluster.splits
splits_of_problem m j problem was is same =
    ap (λ (wave : Wave). length wave.splits) same
    ∙ length-splits (setup_of m) (state_of m) was.kept.tidy
    ∙ ap (λ (i : Job). length i.setup.cluster.splits) is
