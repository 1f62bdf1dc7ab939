use Rattle.std.proofs.Common.{rules, ◌++◌, ◌∷◌, ◌∙◌, [], ap, arith, length, take, take_all}
use Rattle.std.proofs.lemmas.List.{take_more}
use Rattle.line_talk.proofs.Lines.{items_kept}
use Rattle.line_talk.proofs.keep_shown.Goals as goal

pub returns-in-Some : goal.returns-in-Some
returns-in-Some c =
    let shown = c.args.shown.now in
    let at = c.in-Some.at in
    let found = c.in-Some.ensures in (
      take at shown,
      record {
        unbroken = found.1;
        fed = take_more shown at 0 found.0 ∙ ap (λ b. take at shown ++ b ∷ []) found.2;
      },
      omega (arith, found.0),
      items_kept c.args.most c.args.line.now.items shown c.extend_from_slice.new.self.items at c.min-kept.result c.requires (search rules) (search rules),
    )

pub returns-in-None-2 : goal.returns-in-None-2
returns-in-None-2 c =
    let shown = c.args.shown.now in (
      search rules,
      search rules,
      items_kept c.args.most c.args.line.now.items shown c.extend_from_slice.new.self.items (length shown)
          c.min-kept.result c.requires (search rules) (search rules)
          ∙ ap (λ l. take c.args.most (c.args.line.now.items ++ l)) (take_all (length shown) shown (omega arith)),
    )
