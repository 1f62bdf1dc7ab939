use Rattle.std.proofs.Common.{◌≡◌, ◌+◌, ◌<◌, ◌++◌, ◌∷◌, [], ℕ, length, sym, ap, ◌∙◌, arith}
use Rattle.std.proofs.Math.Nat.{add-mul, one-mul}
use Rattle.std.proofs.lemmas.List.{length-append}
use Rattle.compact_lists.specs.Counts.{rises_over}
use Rattle.compact_lists.specs.Rows.{RowsValue, cut_rows}
use Rattle.compact_lists.proofs.Counting.{length-rises}
use Rattle.compact_lists.proofs.Tabling.{cut_more, length-cut, row_within}
use Rattle.compact_lists.proofs.row_table.push_rises.Goals as goal

pub add_rises-requires-clause-room : goal.add_rises-requires-clause-room
add_rises-requires-clause-room c =
    let t = c.table.inside in
    let rows : length c.args.table.now.rows ≡ t.rows =
    sym (ap (λ (v : RowsValue ℕ). length v.rows) c.table.view_is) ∙ length-cut t.width t.rows t.items.items in
    let less : t.rows < t.room = search (arith, rows) in
    let within = row_within t.width t.room t.rows less in
    search (arith, within)

pub invariant_of-table : goal.invariant_of-table
invariant_of-table c =
    let t = c.table.inside in
    let own = rises_over c.args.base.now c.args.counts.now in
    let rows : length c.args.table.now.rows ≡ t.rows =
    sym (ap (λ (v : RowsValue ℕ). length v.rows) c.table.view_is) ∙ length-cut t.width t.rows t.items.items in
    let more = add-mul t.rows 1 t.width in
    let one = one-mul t.width in
    let all = ap length c.add_rises.ensures.items ∙ length-append t.items.items own in
    let wide = length-rises c.args.base.now c.args.counts.now c.requires.same in
    search (arith, rows, more, one, all, wide)

pub returns-clause-rows : goal.returns-clause-rows
returns-clause-rows c =
    let t = c.table.inside in
    let own = rises_over c.args.base.now c.args.counts.now in
    let wide = length-rises c.args.base.now c.args.counts.now c.requires.same in
    ap (cut_rows t.width (t.rows + 1)) c.add_rises.ensures.items
    ∙ cut_more t.width t.rows t.items.items own (search arith) (search (arith, wide))
    ∙ ap (λ (v : RowsValue ℕ). v.rows ++ own ∷ []) c.table.view_is
