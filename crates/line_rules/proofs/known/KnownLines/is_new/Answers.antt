use Rattle.std.proofs.Common.{subst, sym}
use Rattle.line_shapes.specs.Lines.{statement_of}
use Rattle.line_rules.specs.Faults.{Keep}
use Rattle.line_rules.specs.Known.{Known}
use Rattle.line_rules.specs.declared.rule.Rule.TheVariants.{Free}
use Rattle.line_rules.proofs.Paired.{first_of_head}
use Rattle.line_rules.proofs.Sound.{fit_keeps}
use Rattle.line_rules.proofs.known.KnownLines.is_new.Goals as goal

pub returns-then-is_entered_by_new_name : goal.returns-then-is_entered_by_new_name
returns-then-is_entered_by_new_name c =
    let line = statement_of c.args.line.now in
    let free : Keep Free c.args.self.now.rows line =
    subst (λ (k : Known). Keep Free k.rows line) c.self.view_is (c.keeps.ensures.0 c.if-keeps.true) in
    let entered = c.if-is_entered_by_new_name.true in (
      λ t. record {
        names = free;
        first = first_of_head _ _ _ (c.is_entered_by_new_name.ensures entered c.args.self.now.rows
            c.args.line.now.words.now c.requires.places free);
      },
      λ new. entered,
    )

pub keeps-requires : goal.keeps-requires
keeps-requires c fit =
    let line = statement_of c.args.line.now in
    subst (λ (k : Known). Keep Free k.rows line) (sym c.self.view_is)
    (fit_keeps Free _ _ line (c.requires.fit fit))
