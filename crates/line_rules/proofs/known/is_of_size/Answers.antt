use Rattle.std.proofs.Common.{refl, subst, sym}
use Rattle.line_shapes.specs.Lines.{statement_of}
use Rattle.line_rules.specs.Faults.{IsOfSize}
use Rattle.line_rules.specs.declared.edition.Version.{Version}
use Rattle.line_rules.proofs.Sizes.{size_of_range}
use Rattle.line_rules.proofs.known.is_of_size.Goals as goal

pub returns-in-Three : goal.returns-in-Three
returns-in-Three c =
    let said = statement_of c.args.line.now in (
      λ t. subst (λ (v : Version). IsOfSize v said.keyword said.words) (sym c.in-Three.is)
          (size_of_range said.keyword said.words c.requires),
      λ h. refl,
    )
