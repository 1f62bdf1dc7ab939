use Rattle.std.proofs.Common.{◌≡◌, ◌+◌, length, take, refl, sym, ap, ◌∙◌, append-nil, arith}
use Rattle.std.proofs.lemmas.Grind.{common_steps}
use Rattle.std.proofs.lemmas.List.{append_assoc, length-append, length-take}
use Rattle.compact_lists.specs.Counts.{rises_over}
use Rattle.compact_lists.proofs.Counting.{length-rises, rises_more}
use Rattle.compact_lists.proofs.row_table.add_rises.Goals as goal

pub loop-i-init : goal.loop-i-init
loop-i-init c = (sym (append-nil _), refl)

pub push_reserved-requires : goal.push_reserved-requires
push_reserved-requires c =
    let i = c.loop-i.i in
    let base = take i c.args.base.now in
    let counts = take i c.args.counts.now in
    let own : length counts ≡ i = search (arith, length-take) in
    let same : length base ≡ length counts = search (arith, length-take) in
    let all : length c.loop-i.list.items ≡ length c.args.list.now.items + i =
    ap (λ items. length items) c.loop-i.invariant.0
    ∙ length-append c.args.list.now.items (rises_over base counts)
    ∙ ap (λ n. length c.args.list.now.items + n) (length-rises base counts same ∙ own) in
    search (arith, all)

pub loop-i-preserved : goal.loop-i-preserved
loop-i-preserved c =
    let i = c.loop-i.i in
    let more = rises_more c.args.base.now c.args.counts.now i (search arith) (search arith) in
    grind (arith, common_steps, more, append_assoc)
