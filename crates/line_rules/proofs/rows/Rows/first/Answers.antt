use Rattle.std.proofs.Common.{List, [], inl, refl, subst, sym}
use Rattle.std.specs.Prelude.{Contains}
use Rattle.line_shapes.specs.Lines.{Statement}
use Rattle.line_rules.specs.Entering.{Key}
use Rattle.line_rules.specs.Known.{keys_of}
use Rattle.line_rules.proofs.Keyed.{found_none}
use Rattle.line_rules.proofs.OfKeyword.{numbered_there}
use Rattle.line_rules.proofs.rows.Rows.first.Goals as goal

pub returns-in-Some : goal.returns-in-Some
returns-in-Some c =
    let of = c.in-Some.of in
    let key : Key = (of.0, c.args.word.now, []) in
    subst (λ (rows : List Statement). Contains (keys_of rows) key) c.self.view_is
    (numbered_there _ key of.1
    ((c.self.invariant.1.keys key of.1).1 (inl (inl (refl, sym c.in-Some.ensures)))))

pub returns-in-None : goal.returns-in-None
returns-in-None c keyword there =
    let key : Key = (keyword, c.args.word.now, []) in
    found_none _ _ _ _ c.self.invariant.1 key refl (sym c.in-None.ensures)
    (subst (λ (rows : List Statement). Contains (keys_of rows) key) (sym c.self.view_is) there)
