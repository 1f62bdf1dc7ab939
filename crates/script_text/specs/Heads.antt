-- What the head of a script or a job makes, and what is asked of it.
use Rattle.std.specs.Prelude.{ℕ, ◌≡◌, ◌≤◌, List, All, length, map, sum_by}
use Rattle.std.specs.List.{range_with_len}
use Rattle.text_lines.specs.Texts.{number_of}
use Rattle.line_shapes.specs.Lines.{Statement}
use Rattle.line_shapes.specs.declared.keyword.Keyword.TheVariants.{Centre, Rack, Worker, Split, Busy, Parts}
use Rattle.line_shapes.specs.declared.keyword.Keyword.TheVariants.{Silence}
use Rattle.line_rules.specs.Known.{rows_of}
use Rattle.line_rules.specs.declared.edition.Version.{Version}
use Rattle.wave_problem.specs.Wave.{AreHeldWell, IsSmall}
use Rattle.wave_problem.specs.declared.TheConstants.{MAX_SLOTS}
use Rattle.shuffle_reduce.specs.Gather.{values_of}
use Rattle.plan_text.specs.Names.{names_of, nth_word}
use Rattle.plan_text.specs.Value.{declared_split, declared_tree}
use Rattle.script_text.specs.Documents.{texts_of}
use Rattle.script_text.specs.Settings.{setting}
use Rattle.script_text.specs.declared.heads.Head.{Head}

-- `worker NAME RACK SLOTS`
abbrev pub slots_told : Statement → ℕ
slots_told s = number_of (nth_word 2 s)

-- the head is what these rows make in a text of version v
pub record MakesHead (v : Version) (rows : List Statement) (head : Head) : Type 0 where
  pub version : head.version ≡ v
  pub tree : head.tree ≡ declared_tree (names_of Centre rows) (rows_of Rack rows) (rows_of Worker rows)
  pub slots : head.slots.items ≡ map slots_told (rows_of Worker rows)
  pub splits : head.splits.items
      ≡ map (declared_split (names_of Worker rows) (names_of Busy rows)) (rows_of Split rows)
  pub texts : values_of head.texts.items ≡ texts_of rows
  pub parts : head.parts ≡ setting Parts 1 rows
  pub silence : head.silence ≡ setting Silence 3 rows

-- no more workers and splits than a master has
pub record FitMaster (rows : List Statement) : Type 0 where
  pub few_workers : length (rows_of Worker rows) ≤ 32768
  pub few_splits : length (rows_of Split rows) ≤ 131072

-- all that is asked of the parts of a cluster
pub record IsFitHead (head : Head) : Type 0 where
  pub workers : length head.tree.rack_of ≡ length head.slots.items
  pub texts : map (λ text. text.split) (values_of head.texts.items)
      ≡ range_with_len 0 (length head.splits.items)
  pub few_workers : length head.slots.items ≤ 32768
  pub few_slots : All (λ n. n ≤ MAX_SLOTS) head.slots.items
  pub few_splits : length head.splits.items ≤ 131072
  pub small_splits : All IsSmall head.splits.items
  pub held_well : AreHeldWell (length head.slots.items) head.splits.items
  pub few_documents : sum_by (λ text. length text.documents) (values_of head.texts.items) ≤ 1048576
  pub some_parts : 1 ≤ head.parts
  pub few_parts : head.parts ≤ 64
  pub some_silence : 1 ≤ head.silence
