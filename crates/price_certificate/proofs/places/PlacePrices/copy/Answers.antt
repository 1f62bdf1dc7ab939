use Rattle.std.proofs.Common.{ℕ, ◌≤◌, ◌∙◌, ◌++◌, ◌∷◌, [], List, Vec, Global, ap, arith, length, map, rules, sym}
use Rattle.std.proofs.Common.{take_all}
use Rattle.std.proofs.lemmas.List.{map_more, map_push}
use Rattle.price_certificate.proofs.places.PlacePrices.copy.Goals as goal

abbrev items_of : Vec ℕ Global → List ℕ
items_of row = row.items

pub loop-row-preserved : goal.loop-row-preserved
loop-row-preserved c =
    let rows = c.deref-row-items.result.now in
    let copied = c.in_ok-copy.ensures.items_if_clones_equal (λ _ _ e. e) in
    ap (map items_of) c.in_ok-push.ensures.items
    ∙ map_push items_of c.loop-row.rows.items c.in_ok-copy.copy
    ∙ (λ j. c.loop-row.invariant j ++ (copied ∙ c.deref.ensures.value ∙ ap items_of c.row-item.is) j ∷ [])
    ∙ sym (map_more items_of rows c.loop-row.row-index c.row-item.result (search rules))

pub returns : goal.returns
returns c =
    let rows = c.deref-row-items.result.now in
    let past : length rows ≤ c.loop-row.row-index = omega (arith, c.loop-row-test.false) in
    c.loop-row.invariant
    ∙ ap (map items_of) (take_all c.loop-row.row-index rows past ∙ c.deref-row-items.ensures.value)
    ∙ c.self.view_is
