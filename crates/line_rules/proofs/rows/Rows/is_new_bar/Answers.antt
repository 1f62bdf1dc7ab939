use Rattle.std.proofs.Common.{Bool, List, None, ◌≡◌, ◌∙◌, false, not, refl, subst, sym, true, true≢false}
use Rattle.std.specs.Prelude.{Contains, IsTrue}
use Rattle.line_shapes.specs.Lines.{Statement}
use Rattle.line_shapes.specs.declared.keyword.Keyword.TheVariants.{Barred}
use Rattle.line_rules.specs.Entering.{Key}
use Rattle.line_rules.specs.Known.{keys_of}
use Rattle.line_rules.specs.Rows.{IsBarOf, bar_by, bar_said, other_by}
use Rattle.line_rules.proofs.Barred.{bar_new}
use Rattle.line_rules.proofs.Keyed.{is_some_at, none_of, not_empty}
use Rattle.line_rules.proofs.rows.Rows.is_new_bar.Goals as goal

not_true : (b : Bool) → IsTrue (not b) → b ≡ false
not_true true t = absurd (true≢false (sym t))
not_true false t = refl

pub returns : goal.returns
returns c t h =
    let first = c.args.first.now in
    let second = c.args.second.now in
    let key : Key = (Barred, first, second) in
    let bars = c.self.inside.bars.entries in
    let others = c.self.inside.others.entries in
    let of = subst (λ (rows : List Statement). IsBarOf rows (bar_said first second) c.args.bar)
    (sym c.self.view_is) c.requires in
    let none : bar_by bars c.args.bar ≡ None = none_of (bar_by bars c.args.bar)
    (λ n is. true≢false (sym (is_some_at _ n is) ∙ sym c.contains_key.ensures ∙ c.if-contains_key.false)) in
    let other : other_by others key ≡ None = none_of (other_by others key)
    (λ n is. true≢false (sym (is_some_at _ n is) ∙ sym c.has_other.ensures ∙ not_true _ t)) in
    bar_new _ _ _ _ c.self.invariant.1 first second c.args.bar of
    (not_empty second (sym c.is_empty.ensures ∙ c.if-is_empty.false)) none other
    (subst (λ (rows : List Statement). Contains (keys_of rows) key) (sym c.self.view_is) h)
