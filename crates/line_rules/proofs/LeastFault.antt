-- The fault for which a text could not be read is told.
use Rattle.std.proofs.Common.{ℕ, List, ◌∙◌, ap, subst, sym}
use Rattle.text_lines.specs.declared.fault.TextFault.{TextFault}
use Rattle.line_rules.specs.Texts.{IsLeastFault}
use Rattle.line_rules.specs.declared.purpose.Purpose.{Purpose}
use Rattle.line_rules.specs.Reading.{IsReadingError}
use Rattle.line_rules.specs.declared.line_reader.ReadingError.{ReadingError}
use Rattle.line_rules.specs.declared.line_reader.ReadingError.TheVariants as reading
use Rattle.text_lines.specs.Faults.{fault_line}
use Rattle.line_rules.specs.Faulty.{IsFaulty, TellsFault}

pub tells_least : (purpose : Purpose) (text : List ℕ) (error : ReadingError) (fault : TextFault)
    (line : List ℕ)
    → IsReadingError purpose text error → TellsFault error fault line → IsFaulty purpose text fault line
tells_least purpose text (reading.Text least) fault line is told = record {
  least = subst (λ (f : TextFault). IsLeastFault purpose text f.line f.number) (sym told.0) is;
  said = told.1 ∙ ap fault_line (sym told.0);
}
tells_least purpose text reading.Memory fault line is told = absurd told
