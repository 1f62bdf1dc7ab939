use Rattle.std.proofs.Common.{rules, ℕ, ◌∙◌, ap, List}
use Rattle.std.specs.Prelude.{not, ◌==◌}
use Rattle.block_map.specs.Holdings.{without}
use Rattle.block_map.proofs.Holding.{retained}
use Rattle.block_map.proofs.holders.Holders.remove.Goals as goal

pub returns : goal.returns
returns c =
    retained _ (λ (h : ℕ). not (h == c.args.worker)) _ (λ x b t y k. search rules) _ _
    c.retain.ensures.filtered
    ∙ ap (λ (l : List ℕ). without c.args.worker l) c.self.view_is
