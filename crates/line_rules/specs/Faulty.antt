-- What is answered to a text with a fault.
use Rattle.std.specs.Prelude.{ℕ, List, ◌≡◌}
use Rattle.text_lines.specs.declared.fault.TextFault.{TextFault}
use Rattle.line_rules.specs.Texts.{IsLeastFault}
use Rattle.line_rules.specs.declared.purpose.Purpose.{Purpose}
use Rattle.line_rules.specs.declared.line_reader.ReadingError.{ReadingError}
use Rattle.line_rules.specs.declared.line_reader.ReadingError.TheVariants as reading
use Rattle.text_lines.specs.Faults.{fault_line}

-- the line names the least fault of the text
pub record IsFaulty (purpose : Purpose) (text : List ℕ) (fault : TextFault) (line : List ℕ) : Type 0 where
  pub least : IsLeastFault purpose text fault.line fault.number
  pub said : line ≡ fault_line fault

-- the line names the fault for which a text could not be read
abbrev pub TellsFault : ReadingError → TextFault → List ℕ → Type 0
TellsFault (reading.Text fault) told line = (told ≡ fault) × (line ≡ fault_line fault)
TellsFault reading.Memory told line = ⊥
