use Rattle.std.proofs.Common.{List, ◌<◌, ◌∙◌, length, subst, sym}
use Rattle.line_rules.specs.Rows.{IsRowAt}
use Rattle.line_rules.specs.Said.{row_said}
use Rattle.line_rules.specs.declared.rows.Row.{Row}
use Rattle.line_rules.specs.declared.rows.Row.TheVariants as row
use Rattle.line_rules.proofs.Keyed.{key_at}
use Rattle.line_rules.proofs.rows.Rows.key.Goals as goal

pub returns-in-Some-Line : goal.returns-in-Some-Line
returns-in-Some-Line c =
    let said = row_said (row.Line c.in-Some-Line.line) in
    let there = subst (λ (r : Row). (c.args.row < length c.args.self.now)
    × IsRowAt c.args.self.now c.args.row (row_said r))
    c.in-Some-Line.field-0-is c.in-Some-Line.ensures in
    let key = key_at c.args.self.now c.args.row said there.0 there.1 in
    (there.0, λ d. ((key d).0, (key d).1 ∙ sym c.first_of_key.ensures))

pub returns-in-Some-Bar : goal.returns-in-Some-Bar
returns-in-Some-Bar c =
    let said = row_said (row.Bar c.in-Some-Bar.bar) in
    let there = subst (λ (r : Row). (c.args.row < length c.args.self.now)
    × IsRowAt c.args.self.now c.args.row (row_said r))
    c.in-Some-Bar.field-0-is c.in-Some-Bar.ensures in
    let key = key_at c.args.self.now c.args.row said there.0 there.1 in
    (there.0, λ d. ((key d).0, (key d).1 ∙ sym c.name.ensures))
