use Rattle.std.proofs.Common.{arith}
use Rattle.compact_lists.proofs.Tabling.{cut_get, few_elements, length-cut, row_within}
use Rattle.compact_lists.proofs.row_table.RowTable.row.Goals as goal

pub overflow_mul-from : goal.overflow_mul-from
overflow_mul-from g c =
    let t = c.self.inside in
    search (arith, row_within t.width t.rows c.args.index, few_elements t.width t.rows, length-cut)

pub overflow_add-result : goal.overflow_add-result
overflow_add-result g c =
    let t = c.self.inside in
    search (arith, row_within t.width t.rows c.args.index, few_elements t.width t.rows, length-cut)

pub offset_bounds-deref-from : goal.offset_bounds-deref-from
offset_bounds-deref-from g c =
    let t = c.self.inside in
    search (arith, row_within t.width t.rows c.args.index, length-cut)

pub slice_bounds-result-end : goal.slice_bounds-result-end
slice_bounds-result-end g c =
    let t = c.self.inside in
    search (arith, row_within t.width t.rows c.args.index, length-cut)

pub returns-clause-row : goal.returns-clause-row
returns-clause-row g c =
    let t = c.self.inside in
    search (arith, cut_get, length-cut)
