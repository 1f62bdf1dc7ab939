use Rattle.std.proofs.Common.{List, [], get_or, inl, refl, subst}
use Rattle.line_shapes.specs.Lines.{Statement}
use Rattle.line_shapes.specs.declared.keyword.Keyword.TheVariants.{Split}
use Rattle.line_rules.specs.Entering.{Key}
use Rattle.line_rules.specs.Known.{HasRow}
use Rattle.line_rules.proofs.OfKeyword.{numbered_there}
use Rattle.line_rules.proofs.rows.Rows.are_splits_apart.Goals as goal

pub returns-clause-named : goal.returns-clause-named
returns-clause-named c t k d lt =
    let name = (get_or c.args.names.now k d).now in
    let of = c.have_numbers_apart.ensures.named t k d lt in
    let key : Key = (Split, name, []) in
    let there = (c.self.invariant.1.keys key of.1.0).1 (inl (inl (refl, of.1.1))) in (
      of.0,
      subst (λ (rows : List Statement). HasRow rows Split name) c.self.view_is
          (numbered_there _ key of.1.0 there),
    )
