-- The lowest faults of a line that may stand where it does.
use Rattle.std.proofs.Common.{arith}
use Rattle.text_lines.specs.declared.fault.Fault.TheVariants.{Unknown, Repeated, OutOfRange}
use Rattle.line_shapes.specs.Lines.{Statement}
use Rattle.line_rules.specs.Faults.{AreInRange, Fails, IsLeastOf, IsNew, IsComplete, Keep, MayStand}
use Rattle.line_rules.specs.Known.{Known}
use Rattle.line_rules.specs.Names.{IsNamed}
use Rattle.line_rules.specs.declared.rule.Rule.TheVariants as rule

pub least_unknown : (k : Known) (s : Statement) → IsComplete k s → MayStand k s → IsNamed k.version s
    → (Keep rule.Declared k.rows s → ⊥) → IsLeastOf (Fails k s) Unknown
least_unknown k s whole may_stand named fails = grind arith

pub least_repeated : (k : Known) (s : Statement) → IsComplete k s → MayStand k s → IsNamed k.version s
    → Keep rule.Declared k.rows s → (IsNew k.rows s → ⊥) → IsLeastOf (Fails k s) Repeated
least_repeated k s whole may_stand named known fails = grind arith

pub least_out_of_range : (k : Known) (s : Statement) → IsComplete k s → MayStand k s → IsNamed k.version s
    → Keep rule.Declared k.rows s → IsNew k.rows s → (AreInRange k.version s → ⊥)
    → IsLeastOf (Fails k s) OutOfRange
least_out_of_range k s whole may_stand named known new fails = grind arith
