use Rattle.std.proofs.Common.{◌≡◌, ◌∙◌, ◌∷◌, ◌++◌, [], ap, None}
use Rattle.indexmap.proofs.CallerLemmas.{insert_entry-new}
use Rattle.line_rules.specs.Rows.{Bars, bar_by, test_bar}
use Rattle.line_rules.proofs.rows.put_numbers.Goals as goal

pub returns-clause-ok : goal.returns-clause-ok
returns-clause-ok c =
    let room : c.make_room.new.table.entries ≡ c.args.bars.now.entries = c.make_room.ensures in
    let last = insert_entry-new test_bar c.make_room.new.table c.args.bar c.args.number
    (ap (λ (l : Bars). bar_by l c.args.bar) room ∙ c.requires) in
    c.in_ok-insert.ensures.entries ∙ last
    ∙ ap (λ (l : Bars). l ++ (c.args.bar, c.args.number) ∷ []) room
