-- A cluster whose parts were tested is whole.
use Rattle.std.proofs.Common.{◌≡◌, ℕ, ◌≤◌, List, length, map, sym, subst}
use Rattle.std.specs.List.{range_with_len}
use Rattle.std.specs.declared.alloc.Global.{Global}
use Rattle.std.specs.declared.sync.Arc.{Arc}
use Rattle.rack_tree.specs.Tree.{Tree}
use Rattle.rack_tree.specs.View as tree
use Rattle.wave_problem.specs.Wave.{Split, AreHeldWell}
use Rattle.word_map.specs.Texts.{SplitDocuments}
use Rattle.block_map.specs.declared.HolderLimit.{HolderLimit}
use Rattle.shuffle_reduce.specs.Gather.{values_of}
use Rattle.master_state.specs.States.{IsWhole}
use Rattle.master_core.specs.Clusters.{AreFewAndSmall, cluster_from}

pub whole_from : (racks : Tree) (slots copied : List ℕ) (splits : List Split)
    (texts : List (Arc SplitDocuments Global)) (parts silence : ℕ) (limit : HolderLimit) → copied ≡ slots →
    tree.IsWithinLimits racks →
    length racks.rack_of ≡ length slots →
    map (λ text. text.split) (values_of texts) ≡ range_with_len 0 (length splits) → 1 ≤ parts → 1 ≤ silence →
    AreFewAndSmall slots splits (values_of texts) parts → AreHeldWell (length slots) splits →
    IsWhole (cluster_from racks copied splits texts parts silence limit)
whole_from racks slots copied splits texts parts silence limit same within workers of some heard few held =
    subst (λ (given : List ℕ). IsWhole (cluster_from racks given splits texts parts silence limit)) (sym same)
    (record {
      tree = within;
      racks = workers;
      few_workers = few.few_workers;
      slots = few.few_slots;
      few_splits = few.few_splits;
      small = few.small_splits;
      held = held;
      texts = of;
      some_parts = some;
      few_parts = few.few_parts;
      silence = heard;
    })
