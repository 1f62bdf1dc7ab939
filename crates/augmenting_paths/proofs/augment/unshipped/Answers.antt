use Rattle.std.proofs.Common.{get_or, ap, ◌∙◌}
use Rattle.flow_network.proofs.Members.{replicated_at}
use Rattle.augmenting_paths.proofs.Shipped.{begin_state}
use Rattle.augmenting_paths.proofs.augment.unshipped.Goals as goal

pub returns-clause-state : goal.returns-clause-state
returns-clause-state g c =
    begin_state _ _ _ c.layout.ensures.limits.sizes c.requires.no_flow
    (λ v. ap (λ p. get_or p v 0) c.in_ok-new-2.ensures ∙ replicated_at c.size-nodes.result v 0)
