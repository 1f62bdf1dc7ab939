use Rattle.std.proofs.Common.{List, ℕ, ◌++◌, ◌∷◌, [], refl, sym, arith}
use Rattle.node_ids.proofs.Updating.{updated_at}
use Rattle.block_map.proofs.Walking.{updated_past}
use Rattle.block_map.proofs.add_at.Goals as goal

pub returns-then-index-len : goal.returns-then-index-len
returns-then-index-len c =
    updated_at (λ (holders : List ℕ). holders ++ c.args.worker ∷ [])
    c.args.lists.now.items c.args.lists.now.items c.index-then-index-len.result c.args.split
    c.index_mut.result.now c.add.new.self
    c.index-then-index-len.ensures.value refl c.index_mut.ensures.value c.add.ensures
    (omega (arith, c.if-index-len.true, c.len.ensures, c.index.ensures.value))

pub returns-else-index-len : goal.returns-else-index-len
returns-else-index-len c =
    sym (updated_past (λ (holders : List ℕ). holders ++ c.args.worker ∷ []) c.args.lists.now.items
    c.args.split (omega (arith, c.if-index-len.false, c.len.ensures, c.index.ensures.value)))
