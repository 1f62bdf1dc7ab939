use Rattle.std.proofs.Common.{◌≡◌, ◌+◌, ◌<◌, ◌++◌, ◌∷◌, [], length, sym, ap, ◌∙◌, arith}
use Rattle.std.proofs.Math.Nat.{add-mul, one-mul}
use Rattle.std.proofs.lemmas.List.{length-append}
use Rattle.compact_lists.specs.Rows.{RowsValue, cut_rows}
use Rattle.compact_lists.proofs.Tabling.{cut_more, length-cut, row_within}
use Rattle.compact_lists.proofs.row_table.RowTable.push.Goals as goal

pub add_all-requires : goal.add_all-requires
add_all-requires g c =
    let t = c.self.inside in
    let rows : length c.args.self.now.rows ≡ t.rows =
    sym (ap (λ v. length v.rows) c.self.view_is) ∙ length-cut t.width t.rows t.items.items in
    let less : t.rows < t.room = search (arith, rows) in
    let within = row_within t.width t.room t.rows less in
    search (arith, within)

pub invariant_of-self : goal.invariant_of-self
invariant_of-self g c =
    let t = c.self.inside in
    let rows : length c.args.self.now.rows ≡ t.rows =
    sym (ap (λ v. length v.rows) c.self.view_is) ∙ length-cut t.width t.rows t.items.items in
    let more = add-mul t.rows 1 t.width in
    let one = one-mul t.width in
    let all = ap length c.add_all.ensures.items ∙ length-append t.items.items c.args.row.now in
    search (arith, rows, more, one, all)

pub returns-clause-rows : goal.returns-clause-rows
returns-clause-rows g c =
    let t = c.self.inside in
    ap (cut_rows t.width (t.rows + 1)) c.add_all.ensures.items
    ∙ cut_more t.width t.rows t.items.items c.args.row.now (search arith) (search arith)
    ∙ ap (λ (v : RowsValue g.row.T.Denot). v.rows ++ c.args.row.now ∷ []) c.self.view_is
