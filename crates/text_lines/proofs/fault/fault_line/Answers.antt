use Rattle.std.proofs.Common.{◌∙◌, append_assoc}
use Rattle.std.proofs.lemmas.Result.{IfOk-weaker}
use Rattle.text_lines.proofs.fault.fault_line.Goals as goal

pub returns : goal.returns
returns c =
    IfOk-weaker c.format.result _ _ (λ s e. e ∙ simp (append_assoc, c.number-number.ensures))
    c.format.ensures.ok
