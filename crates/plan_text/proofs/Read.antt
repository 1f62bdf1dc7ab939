-- What is made of the rows of a text that was read is what its lines declare.
use Rattle.std.proofs.Common.{ℕ, List, [], length, subst, take}
use Rattle.text_lines.specs.Texts.{lines_of}
use Rattle.line_shapes.specs.Lines.{Statement}
use Rattle.line_rules.specs.Known.{Known, known_at}
use Rattle.line_rules.specs.Reading.{AreFitLines, IsAllRead}
use Rattle.line_rules.specs.declared.purpose.Purpose.{Purpose}
use Rattle.line_rules.proofs.OneReading.{reads-unique}
use Rattle.plan_text.specs.Reading.{HasFitLines}

module _ (purpose : Purpose) (text : List ℕ) (k : Known) (read : IsAllRead purpose text k) where
  -- the lines of a text that was read fit, whatever says that it has no fault
  pub all_fit : HasFitLines purpose text
  all_fit ss reads =
      subst (λ (ts : List Statement). AreFitLines (known_at purpose []) (take (length ts) (lines_of text)) ts)
      (reads-unique purpose text read.statements ss read.reads reads) read.fit
