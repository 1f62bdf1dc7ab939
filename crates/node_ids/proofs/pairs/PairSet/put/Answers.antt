use Rattle.std.proofs.Common.{◌≡◌, ◌∙◌, ◌<◌, ◌⊎◌, ◌↔◌, ℕ, List, length, sym, ap, map, set, get_or, subst}
use Rattle.std.proofs.Common.{Result, Ok, Err}
use Rattle.std.specs.Prelude.{OnOk}
use Rattle.std.proofs.lemmas.List.{get_or-map, length-map, map-set}
use Rattle.node_ids.specs.Sets.{with_pair, row_with, HasPair}
use Rattle.node_ids.proofs.Updating.{updated_at}
use Rattle.node_ids.proofs.Rows.{pairs-with_pair}
use Rattle.node_ids.proofs.pairs.PairSet.put.Goals as goal

module _ (c : goal.After-self-1) where
  abbrev rows : List (List ℕ)
  rows = map (λ row. row.items) c.self.inside.rows.items

  known : c.args.split < length rows
  known = rw c.self.view_is c.requires

  entry : c.index_mut.result.now.items ≡ get_or rows c.index.result c.index_mut.result.now.items
  entry = ap (λ row. row.items) c.index_mut.ensures.value
      ∙ sym (get_or-map (λ row. row.items) c.self.inside.rows.items c.index.result c.index_mut.result.now
      c.index_mut.result.now.items (rw c.index.ensures.value (rw length-map at known)))

  pub made : c.put_in_row.new.row.items ≡ row_with c.args.worker c.index_mut.result.now.items
      → map (λ row. row.items) (set c.self.inside.rows.items c.index.result c.put_in_row.new.row)
      ≡ with_pair rows c.args.split c.args.worker
  made new = map-set (λ row. row.items) c.self.inside.rows.items c.index.result c.put_in_row.new.row
      ∙ updated_at (row_with c.args.worker) rows rows c.index.result c.args.split
      c.index_mut.result.now.items
      c.put_in_row.new.row.items c.index.ensures.value (λ i. rows) entry new known

-- what holds of what was made holds where it was made
on_ok : {T E : Type 0} (r : Result T E) (A B : Type 0) → (A → B) → OnOk r A → OnOk r B
on_ok (Ok x) A B more has = more has
on_ok (Err e) A B more has = tt

pub returns-clause-value : goal.returns-clause-value
returns-clause-value c = on_ok c.put_in_row.result _ _
    (λ new. made c new ∙ ap (λ (xs : List (List ℕ)). with_pair xs c.args.split c.args.worker) c.self.view_is)
    c.put_in_row.ensures.value

pub returns-clause-members : goal.returns-clause-members
returns-clause-members c = on_ok c.put_in_row.result _ _
    (λ new s w. subst (λ (xs : List (List ℕ)). HasPair xs s w ↔ (((s ≡ c.args.split) × (w ≡ c.args.worker))
    ⊎ HasPair c.args.self.now s w)) (sym (made c new))
    (rw (sym c.self.view_is) (pairs-with_pair (rows c) c.args.split c.args.worker s w (known c))))
    c.put_in_row.ensures.value
