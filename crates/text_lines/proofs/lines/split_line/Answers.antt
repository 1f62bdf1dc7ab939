use Rattle.std.proofs.Common.{rules, ◌==◌, ◌+◌, arith, ◌∙◌, ap, sym, ◌∷◌, take, length-drop}
use Rattle.text_lines.proofs.Splitting.{all_of_rest, cut_none, cut_some}
use Rattle.std.proofs.lemmas.List.Quantifiers.{position-Some}
use Rattle.text_lines.specs.Texts.{lines_of}
use Rattle.text_lines.proofs.lines.split_line.Goals as goal

pub returns-in-Some : goal.returns-in-Some
returns-in-Some c = (
  cut_some (λ b. b == 10) c.args.text.now c.in-Some.at (search rules)
      ∙ ap (λ rest. take c.in-Some.at c.args.text.now ∷ lines_of rest)
      (sym (all_of_rest (c.in-Some.at + 1) c.args.text.now)),
  let short = (position-Some (λ b. b == 10) c.args.text.now c.in-Some.at 0 (search rules)).0 in
      rw (all_of_rest (c.in-Some.at + 1) c.args.text.now, length-drop (c.in-Some.at + 1) c.args.text.now)
      (omega arith),
)

pub returns-in-None : goal.returns-in-None
returns-in-None c = cut_none (λ b. b == 10) c.args.text.now (search rules)
