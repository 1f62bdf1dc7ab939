use Rattle.std.proofs.Common.{◌≡◌, ◌-◌, ◌∙◌, ap, arith, drop, length, length-drop, map, sym, take_all}
use Rattle.std.proofs.lemmas.List.{drop-map, length-map}
use Rattle.line_shapes.specs.Lines.{Statement}
use Rattle.line_shapes.specs.declared.keyword.Keyword.TheVariants.{Barred, Places}
use Rattle.line_rules.specs.Known.{nth_row}
use Rattle.plan_text.proofs.Words.{places_at}
use Rattle.plan_text.proofs.place_rows.price_words.Goals as goal

pub returns : goal.returns
returns c =
    let ws = c.in-Line.line.words.now in
    ap (map (λ w. w.now)) (take_all (length ws - 1) (drop 1 ws) (rw length-drop (omega arith)))
    ∙ sym (drop-map (λ w. w.now) 1 ws) ∙ ap (λ (s : Statement). drop 1 s.words) c.in-Line.ensures

pub slice_bounds-result-count : goal.slice_bounds-result-count
slice_bounds-result-count c =
    let row = places_at c.args.rows.now c.are_tidy.ensures c.args.row c.requires in
    let words = ap (λ (s : Statement). length s.words) c.in-Line.ensures in
    omega (arith, row.whole, words, length-map c.in-Line.line.words.now (λ w. w.now))

pub slice_bounds-result-start : goal.slice_bounds-result-start
slice_bounds-result-start c =
    let row = places_at c.args.rows.now c.are_tidy.ensures c.args.row c.requires in
    let words = ap (λ (s : Statement). length s.words) c.in-Line.ensures in
    omega (arith, row.whole, words, length-map c.in-Line.line.words.now (λ w. w.now))

pub unreachable-requires : goal.unreachable-requires
unreachable-requires c =
    let row = places_at c.args.rows.now c.are_tidy.ensures c.args.row c.requires in
    let same : Barred ≡ Places = ap (λ (s : Statement). s.keyword) c.in-Bar.ensures ∙ row.is_places in
    absurd cc
