-- The parts of a cluster, and the limits that are tested of them.
use Rattle.std.specs.Prelude.{ℕ, ◌≤◌, List, All, length, sum_by}
use Rattle.std.specs.declared.alloc.Global.{Global}
use Rattle.std.specs.declared.sync.Arc.{Arc}
use Rattle.rack_tree.specs.Tree.{Tree}
use Rattle.wave_problem.specs.declared.TheConstants.{MAX_SLOTS}
use Rattle.wave_problem.specs.Wave.{Split, IsSmall}
use Rattle.word_map.specs.Texts.{SplitDocuments}
use Rattle.block_map.specs.declared.HolderLimit.{HolderLimit}
use Rattle.shuffle_reduce.specs.Gather.{values_of}
use Rattle.master_state.specs.declared.TheConstants.{MAX_JOB_SPLITS, MAX_JOB_WORKERS}
use Rattle.master_state.specs.States.{Cluster}

-- the cluster of these parts
abbrev pub cluster_from : Tree → List ℕ → List Split → List (Arc SplitDocuments Global) → ℕ → ℕ → HolderLimit
    → Cluster
cluster_from tree slots splits texts parts silence holder_limit = record {
  tree = tree;
  slots = slots;
  splits = splits;
  texts = values_of texts;
  parts = parts;
  silence = silence;
  holder_limit = holder_limit;
}

-- how many documents the splits have together
abbrev pub documents_in : List SplitDocuments → ℕ
documents_in texts = sum_by (λ text. length text.documents) texts

-- the workers are few and have few slots, the splits are few and small, and the documents and the parts are
-- few
pub record AreFewAndSmall
    (slots : List ℕ) (splits : List Split) (texts : List SplitDocuments) (parts : ℕ) : Type 0 where
  pub few_workers : length slots ≤ MAX_JOB_WORKERS
  pub few_slots : All (λ n. n ≤ MAX_SLOTS) slots
  pub few_splits : length splits ≤ MAX_JOB_SPLITS
  pub small_splits : All IsSmall splits
  pub few_documents : documents_in texts ≤ 1048576
  pub few_parts : parts ≤ 64
