use Rattle.std.proofs.Common.{List, inl, inr, subst, sym}
use Rattle.std.specs.Prelude.{Contains}
use Rattle.line_shapes.specs.Lines.{Statement}
use Rattle.line_rules.specs.Entering.{Key}
use Rattle.line_rules.specs.Known.{HasNumber, keys_of}
use Rattle.line_rules.proofs.Keyed.{have_words, key_absent}
use Rattle.line_rules.proofs.rows.Rows.number.Goals as goal

pub key_number-requires : goal.key_number-requires
key_number-requires c = have_words _ _ _ _ c.self.invariant.1

pub bar_number-requires : goal.bar_number-requires
bar_number-requires c = have_words _ _ _ _ c.self.invariant.1

pub returns-in-Some : goal.returns-in-Some
returns-in-Some c =
    let key : Key = (c.args.keyword, c.args.first.now, c.args.second.now) in
    let n = c.in-Some.number in
    subst (λ (rows : List Statement). HasNumber rows key n) c.self.view_is
    ((c.self.invariant.1.keys key n).1 (inl c.in-Some.ensures))

pub returns-in-Some-bar_number : goal.returns-in-Some-bar_number
returns-in-Some-bar_number c =
    let key : Key = (c.args.keyword, c.args.first.now, c.args.second.now) in
    let n = c.in-Some-bar_number.number in
    subst (λ (rows : List Statement). HasNumber rows key n) c.self.view_is
    ((c.self.invariant.1.keys key n).1 (inr (c.in-Some-bar_number.ensures _ c.self.invariant.1)))

pub returns-in-None-bar_number : goal.returns-in-None-bar_number
returns-in-None-bar_number c h =
    let key : Key = (c.args.keyword, c.args.first.now, c.args.second.now) in
    key_absent _ _ _ _ c.self.invariant.1 key c.in-None.ensures
    (c.in-None-bar_number.ensures _ c.self.invariant.1)
    (subst (λ (rows : List Statement). Contains (keys_of rows) key) (sym c.self.view_is) h)
