use Rattle.std.proofs.Common.{ℕ, ◌≤◌, ◌∙◌, ◌++◌, ◌∷◌, [], List, Vec, Global, ap, arith, length, map, rules, sym}
use Rattle.std.proofs.Common.{take_all}
use Rattle.std.proofs.lemmas.List.{map_more, map_push}
use Rattle.wave_arrays.specs.declared.place_rows.PlaceRow.{PlaceRow}
use Rattle.wave_arrays.specs.PlacePrices.{place_prices_of}
use Rattle.wave_arrays.proofs.place_rows.lists_of.Goals as goal

abbrev items_of : Vec ℕ Global → List ℕ
items_of list = list.items

pub loop-row-preserved : goal.loop-row-preserved
loop-row-preserved c =
    let rows = c.args.places.now.rows.now in
    let prices = place_prices_of c.args.places.now.prices.now in
    let none : PlaceRow = record { first_price = 0; price_count = 0 } in
    let same = c.in_ok-list.ensures.items_if_clones_equal (λ _ _ e. e) in
    ap (map items_of) c.in_ok-push.ensures.items
    ∙ map_push items_of c.loop-row.lists.items c.in_ok-list.list
    ∙ (λ j. c.loop-row.invariant j ++ (same ∙ c.prices_of_row.ensures) j ∷ [])
    ∙ sym (map_more prices rows c.loop-row.row-index none (search rules))

pub returns : goal.returns
returns c =
    let rows = c.args.places.now.rows.now in
    let past : length rows ≤ c.loop-row.row-index = omega (arith, c.loop-row-test.false) in
    c.loop-row.invariant
    ∙ ap (map (place_prices_of c.args.places.now.prices.now)) (take_all c.loop-row.row-index rows past)
