use Rattle.std.proofs.Common.{◌≡◌, ◌∙◌, ap, arith, drop, length, length-drop, sym}
use Rattle.std.proofs.lemmas.List.{length-map}
use Rattle.line_shapes.specs.Lines.{Statement}
use Rattle.line_shapes.specs.Places.{places_of}
use Rattle.line_shapes.specs.declared.keyword.Keyword.TheVariants.{Barred, Split}
use Rattle.line_rules.specs.Known.{nth_row}
use Rattle.plan_text.proofs.Words.{split_at}
use Rattle.plan_text.proofs.tidy_rows.TidyRows.holder_count.Goals as goal

pub returns : goal.returns
returns c =
    let rows = c.args.self.now in
    let row = nth_row Split c.args.split rows in
    let own : row.keyword ≡ Split = (split_at rows c.are_tidy.ensures c.args.split c.requires).is_split in
    let words = ap (λ (s : Statement). length s.words) c.in-Line.ensures in
    let behind = length-drop 2 row.words in
    let all = length-map c.in-Line.line.words.now (λ w. w.now) in
    omega (arith, behind, words, all)
    ∙ ap (λ k. length (drop (length (places_of k)) row.words)) (sym own)

pub overflow_sub-result : goal.overflow_sub-result
overflow_sub-result c =
    let split = split_at c.args.self.now c.are_tidy.ensures c.args.split c.requires in
    let words = ap (λ (s : Statement). length s.words) c.in-Line.ensures in
    omega (arith, split.whole, words, length-map c.in-Line.line.words.now (λ w. w.now))

pub unreachable-requires : goal.unreachable-requires
unreachable-requires c =
    let split = split_at c.args.self.now c.are_tidy.ensures c.args.split c.requires in
    let same : Barred ≡ Split = ap (λ (s : Statement). s.keyword) c.in-Bar.ensures ∙ split.is_split in
    absurd cc
