use Rattle.std.proofs.lemmas.Result.{IfOk-weaker}
use Rattle.std.proofs.Common.{List, sym, subst}
use Rattle.block_map.specs.declared.CopyOrder.{CopyOrder}
use Rattle.block_map.specs.Copies.{AreCopies, holdings}
use Rattle.block_map.proofs.Computed.{copies_are}
use Rattle.block_map.proofs.BlockMap.copy_orders.Goals as goal

pub returns : goal.returns
returns c =
    let h = holdings c.args.workers.now c.args.tree.now c.args.self.now c.args.target in
    IfOk-weaker c.copy_orders.result _ _
    (λ orders is. subst (λ (l : List CopyOrder). AreCopies h l) (sym is) (copies_are h)) c.copy_orders.ensures
