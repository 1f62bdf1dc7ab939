use Rattle.std.proofs.Common.{◌≡◌, ◌∙◌, ◌&&◌, Some, ap, length, ltb, min, subst, sym, true, ℕ}
use Rattle.block_map.specs.Holdings.{holders_of}
use Rattle.block_map.specs.Copies.{copy_at, holdings, live_count, wants_copy}
use Rattle.block_map.proofs.Computed.{is_the_copy, wants}
use Rattle.block_map.proofs.copies.copy_order.Goals as goal

pub returns-then-is_between : goal.returns-then-is_between
returns-then-is_between c =
    let h = holdings c.args.table.now c.args.tree.now c.args.blocks.now c.args.target in
    let s = c.args.split in
    let limit : c.min-limit.result ≡ min c.args.target (live_count c.args.table.now) =
    c.min-limit.ensures ∙ ap (λ (n : ℕ). min c.args.target n) c.live_count.ensures in
    let yes : wants_copy h s ≡ true =
    (λ k. ltb 0 (length (holders_of h.lists s)) && ltb (length (holders_of h.lists s)) (sym limit k))
    ∙ sym c.is_between.ensures ∙ c.if-is_between.true in
    let copy = c.copy_of.ensures.copy c.args.target (wants h s yes) in
    sym (subst (λ (k : ℕ). copy_at h k ≡ Some c.copy_of.result) c.copy_of.ensures.split
    (is_the_copy h c.copy_of.result copy))
