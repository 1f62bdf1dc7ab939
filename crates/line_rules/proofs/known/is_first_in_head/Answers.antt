use Rattle.line_rules.proofs.Paired.{first_of_head}
use Rattle.line_rules.proofs.known.is_first_in_head.Goals as goal

pub returns-then-is_new_bar : goal.returns-then-is_new_bar
returns-then-is_new_bar c =
    let new = c.if-is_new_bar.true in
    (λ t. first_of_head _ _ _ (c.is_new_bar.ensures new), λ h. new)
