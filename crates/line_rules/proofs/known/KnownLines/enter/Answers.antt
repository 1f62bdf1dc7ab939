use Rattle.std.proofs.Common.{List, ◌++◌, ◌≡◌, subst, sym}
use Rattle.line_shapes.specs.Lines.{Statement, statement_of}
use Rattle.line_rules.specs.Entered.{IsSoundBefore}
use Rattle.line_rules.specs.Faults.{IsFit}
use Rattle.line_rules.specs.Entering.{entered_of}
use Rattle.line_rules.specs.Holders.{AreHolders, AreHoldersOf}
use Rattle.line_rules.proofs.Held.{holders_of_entered}
use Rattle.line_rules.specs.Known.{Known, version_after}
use Rattle.line_rules.specs.Sections.{section_after}
use Rattle.line_rules.proofs.Sound.{sound_entered}
use Rattle.line_rules.proofs.known.KnownLines.enter.Goals as goal

pub invariant_of-self-in-Ok : goal.invariant_of-self-in-Ok
invariant_of-self-in-Ok c =
    let said = statement_of c.args.line.now in
    let fit = subst (λ (k : Known). IsFit k said) (sym c.self.view_is) c.requires.fit in
    let version = version_after c.self.inside.version said in
    let rows : c.put.new.rows ≡ c.self.inside.rows ++ entered_of said = c.in-Ok.ensures.rows in (
      subst (λ v. IsSoundBefore v c.section_after-self-inside.result c.put.new.rows)
          (sym c.version_after-self-inside.ensures)
          (subst (λ section. IsSoundBefore version section c.put.new.rows)
          (sym c.section_after-self-inside.ensures)
          (subst (IsSoundBefore version (section_after said.keyword)) (sym rows)
          (sound_entered _ said c.self.invariant.0 fit))),
      subst (λ (rows : List Statement). AreHolders rows c.add_numbers.new.list.items) (sym rows)
          (subst (AreHolders (c.self.inside.rows ++ entered_of said)) (sym c.in_ok-add_numbers.ensures.ok)
          (holders_of_entered c.self.inside.rows said c.self.inside.holders.items c.args.holders.now
          c.self.invariant.1 (subst (λ (k : Known). AreHoldersOf k.rows said c.args.holders.now) (sym c.self.view_is)
          c.requires.holders))),
    )
