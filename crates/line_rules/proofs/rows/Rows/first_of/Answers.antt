use Rattle.std.proofs.Common.{List, ◌≡◌, ◌∙◌, Some, [], inl, refl, subst, sym}
use Rattle.line_shapes.specs.Lines.{Statement}
use Rattle.line_shapes.specs.contracts.keyword.Keyword.{the_type}
use Rattle.line_rules.specs.Entering.{Key}
use Rattle.line_rules.specs.Known.{HasNumber}
use Rattle.line_rules.specs.Rows.{first_by}
use Rattle.line_rules.proofs.rows.Rows.first_of.Goals as goal
use denote.Enum.Bare.{same_true}

pub returns-then-eq : goal.returns-then-eq
returns-then-eq c =
    let key : Key = (c.args.keyword, c.args.word.now, []) in
    let of = c.in_ok-of.of in
    let keyword : of.0 ≡ c.args.keyword = same_true the_type tt of.0 c.args.keyword
    (sym c.eq.ensures ∙ c.if-eq.true) in
    let first : first_by c.self.inside.firsts.entries c.args.word.now ≡ Some (c.args.keyword, of.1) =
    sym c.in_ok-of.ensures ∙ (λ i. Some (keyword i, of.1)) in
    subst (λ (rows : List Statement). HasNumber rows key of.1) c.self.view_is
    ((c.self.invariant.1.keys key of.1).1 (inl (inl (refl, first))))
