-- A text has one fault that is answered, and one line that answers it.
use Rattle.std.proofs.Common.{ℕ, List, ◌≡◌, ◌∙◌, sym, ap}
use Rattle.text_lines.specs.declared.fault.TextFault.{TextFault}
use Rattle.line_rules.specs.declared.purpose.Purpose.{Purpose}
use Rattle.line_rules.proofs.OneReading.{least_fault-unique}
use Rattle.text_lines.specs.Faults.{fault_line}
use Rattle.line_rules.specs.Faulty.{IsFaulty}

pub one_fault : (purpose : Purpose) (text : List ℕ) (f g : TextFault) (x y : List ℕ) →
    IsFaulty purpose text f x
    → IsFaulty purpose text g y → (f ≡ g) × (x ≡ y)
one_fault purpose text f g x y p q =
    let same = least_fault-unique purpose text f.line g.line f.number g.number p.least q.least in
    let faults : f ≡ g = λ i. record { line = same.0 i; number = same.1 i } in
    (faults, p.said ∙ ap fault_line faults ∙ sym q.said)
