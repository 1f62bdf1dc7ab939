use Rattle.std.proofs.Common.{sym, ◌∙◌, Ok, Err, arith}
use Rattle.node_ids.proofs.Rows.{is_found, rises-insert, row_with-insert, row_with-there, IsFound}
use Rattle.node_ids.proofs.pairs.put_in_row.Goals as goal

module _ (c : goal.In_ok-insert) where
  pub place : IsFound c.args.row.now.items c.args.worker (Err c.in-Err.place)
  place = is_found c.args.row.now.items c.deref.result.now c.args.worker c.binary_search.result _
      c.deref.ensures.value c.in-Err.is c.binary_search.ensures.position c.requires

pub returns-in_ok-insert-clause-value : goal.returns-in_ok-insert-clause-value
returns-in_ok-insert-clause-value c =
    let p = place c in
    c.in_ok-insert.ensures.items
    ∙ sym (row_with-insert c.args.worker c.args.row.now.items c.in-Err.place p.0 p.1 p.2)

pub returns-in_ok-insert-clause-rising : goal.returns-in_ok-insert-clause-rising
returns-in_ok-insert-clause-rising c = rw c.in_ok-insert.ensures.items
    (rises-insert c.args.row.now.items c.args.worker c.in-Err.place c.requires (place c))

pub returns-in_default-clause-value : goal.returns-in_default-clause-value
returns-in_default-clause-value c =
    let row = c.args.row.now.items in
    let there = is_found row c.deref.result.now c.args.worker c.binary_search.result (Ok c.in_default.field-0)
    c.deref.ensures.value c.in_default.is c.binary_search.ensures.position c.requires in
    sym (row_with-there c.args.worker row c.in_default.field-0 there.0 there.1
    (λ k lt. rw (sym there.1) (c.requires k c.in_default.field-0 0 (omega (arith, lt)) there.0)))
