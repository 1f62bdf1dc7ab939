use Rattle.std.proofs.Common.{◌≡◌, ◌∙◌, false, true, take, get_or, sym, ap}
use Rattle.std.proofs.lemmas.Bool.{not-false, not-true}
use Rattle.std.proofs.lemmas.Grind.{get_or_default_zero}
use Rattle.node_ids.specs.Sets.{is_in_row}
use Rattle.block_map.specs.Holdings.{are_full, has_full_among, holders_of, with_holder}
use Rattle.block_map.proofs.Walking.{walk_more, walk_none, walk_room, walk_same}
use Rattle.block_map.proofs.add_to_each.Goals as goal
use Rattle.block_map.proofs.add_to_each.Goals.{then-is_first, else-is_first}

pub loop-i-init : goal.loop-i-init
loop-i-init c = sym (walk_none c.args.lists.now.items c.args.worker)

pub add_at-requires : goal.add_at-requires
add_at-requires c =
    let row = c.members-members.result.now in
    let i = c.loop-i.i in
    let lists = c.args.lists.now.items in
    let new : is_in_row (take i row) (get_or row i 0) ≡ false =
    not-true (is_in_row (take i row) (get_or row i 0)) (sym c.is_first.ensures ∙ c.if-is_first.true) in
    let few : has_full_among c.args.limit lists row ≡ false =
    ap (has_full_among c.args.limit lists) c.members-members.ensures.value ∙ c.requires in
    let at = c.index-members-i.is ∙ get_or_default_zero row i c.index-members-i.result c.loop-i-test.true in
    (λ k. are_full c.args.limit (holders_of (c.loop-i.invariant k) (at k)))
    ∙ walk_room c.args.limit lists row i c.args.worker c.loop-i-test.true new few

pub loop-i-preserved : goal.loop-i-preserved
loop-i-preserved c =
    let row = c.members-members.result.now in
    let i = c.loop-i.i in
    let lists = c.args.lists.now.items in
    let w = c.args.worker in
    elim c.if-is_first.branch [
      | then-is_first b ↦
          let new : is_in_row (take i row) (get_or row i 0) ≡ false =
          not-true (is_in_row (take i row) (get_or row i 0)) (sym c.is_first.ensures ∙ b.if-is_first.true) in
          let at = b.index-members-i.is
          ∙ get_or_default_zero row i b.index-members-i.result c.loop-i-test.true in
          ap (λ lists. lists.items) b.lists-is ∙ b.add_at.ensures
          ∙ (λ k. with_holder (c.loop-i.invariant k) (at k) w)
          ∙ sym (walk_more lists row i w c.loop-i-test.true new)
      | else-is_first b ↦
          let old : is_in_row (take i row) (get_or row i 0) ≡ true =
          not-false (is_in_row (take i row) (get_or row i 0))
          (sym c.is_first.ensures ∙ b.if-is_first.false) in
          ap (λ lists. lists.items) b.lists-is ∙ c.loop-i.invariant
          ∙ sym (walk_same lists row i w c.loop-i-test.true old)
    ]
