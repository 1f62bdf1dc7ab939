-- One more run of a text.
use Rattle.std.proofs.Common.{◌≡◌, ℕ, ◌<◌, List, length, get_or}
use Rattle.std.specs.Arc.{arc_value}
use Rattle.std.specs.declared.alloc.Global.{Global}
use Rattle.std.specs.declared.sync.Arc.{Arc}
use Rattle.word_map.specs.Texts.{SplitDocuments}
use Rattle.word_map.specs.Runs.{RunView, IsRunFor}

-- the runs of the parts below a number
pub record AreRunsBefore (text : SplitDocuments) (parts below : ℕ) (runs : List (Arc RunView Global)) : Type
    0 where
  pub count : length runs ≡ below
  pub each : (part : ℕ) (d : Arc RunView Global) → part < below →
      IsRunFor text part parts (arc_value (get_or runs part d))
