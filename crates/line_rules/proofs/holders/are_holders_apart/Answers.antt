use Rattle.std.proofs.Common.{◌≢◌, subst, sym}
use Rattle.std.proofs.lemmas.List.{append-nil}
use Rattle.std.specs.List.{AllPairs}
use Rattle.text_lines.specs.Texts.{Word}
use Rattle.line_shapes.specs.Lines.{HasTailApart, stated, tail_words}
use Rattle.line_shapes.specs.declared.keyword.Keyword.{Keyword}
use Rattle.line_shapes.specs.declared.keyword.Keyword.TheVariants.{Split}
use Rattle.line_rules.specs.Holders.{AreHoldersOf}
use Rattle.line_rules.proofs.holders.are_holders_apart.Goals as goal

pub returns-in-Split : goal.returns-in-Split
returns-in-Split c t =
    let words = c.args.words.now in
    let numbers =
    subst (λ (k : Keyword). AreHoldersOf c.args.rows.now (stated k words) c.args.numbers.now) c.in-Split.is
    c.requires in
    let all = c.are_workers_apart.ensures t _ numbers in
    subst (λ (k : Keyword). HasTailApart (stated k words)) (sym c.in-Split.is)
    (subst (AllPairs (λ (a b : Word). a ≢ b)) (append-nil (tail_words (stated Split words))) all)
