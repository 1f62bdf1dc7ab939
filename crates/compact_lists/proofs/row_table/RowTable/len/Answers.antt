use Rattle.std.proofs.Common.{length, sym, ap, ◌∙◌}
use Rattle.compact_lists.proofs.Tabling.{length-cut}
use Rattle.compact_lists.proofs.row_table.RowTable.len.Goals as goal

pub returns-clause-count : goal.returns-clause-count
returns-clause-count g c =
    let t = c.self.inside in
    sym (length-cut t.width t.rows t.items.items) ∙ ap (λ v. length v.rows) c.self.view_is
