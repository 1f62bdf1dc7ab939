use Rattle.std.proofs.Common.{◌∙◌, ap, sym, subst, IfSome}
use Rattle.std.specs.Prelude.{is_some}
use Rattle.block_map.specs.Copies.{IsCopy, holdings}
use Rattle.block_map.proofs.Computed.{copy_is, copy_wanted}
use Rattle.block_map.proofs.BlockMap.copy_order.Goals as goal

pub returns-clause-copy : goal.returns-clause-copy
returns-clause-copy c =
    let h = holdings c.args.workers.now c.args.tree.now c.args.self.now c.args.target in
    subst (λ o. IfSome o (IsCopy h)) (sym c.copy_order.ensures) (copy_is h c.args.split)

pub returns-clause-wanted : goal.returns-clause-wanted
returns-clause-wanted c =
    let h = holdings c.args.workers.now c.args.tree.now c.args.self.now c.args.target in
    ap (λ o. is_some o) c.copy_order.ensures ∙ copy_wanted h c.args.split
