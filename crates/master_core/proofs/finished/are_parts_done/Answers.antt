use Rattle.std.proofs.Common.{◌∙◌, ap, ◌==◌, ℕ}
use Rattle.master_core.proofs.AllParts.{none_open}
use Rattle.master_core.proofs.finished.are_parts_done.Goals as goal

pub returns : goal.returns
returns c =
    ap (λ (n : ℕ). n == 0) c.glance.ensures.open_parts ∙ none_open c.args.master.now.state.parts
