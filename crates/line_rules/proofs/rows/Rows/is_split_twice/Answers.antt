use Rattle.std.proofs.Common.{◌≡◌, ◌∙◌, ℕ, [], Some, ap, inl, refl, sym}
use Rattle.text_lines.specs.Texts.{Word}
use Rattle.line_shapes.specs.declared.keyword.Keyword.TheVariants.{Split}
use Rattle.line_rules.specs.Entering.{Key}
use Rattle.line_rules.specs.Rows.{first_by}
use Rattle.line_rules.proofs.Numbered.{not_apart}
use Rattle.line_rules.proofs.rows.Rows.is_split_twice.Goals as goal

pub returns : goal.returns
returns c twice =
    let firsts = c.self.inside.firsts.entries in
    let row = λ (name : Word) (n : ℕ) (is : first_by firsts name ≡ Some (Split, n)).
    (c.self.invariant.1.keys (Split, name, []) n).1 (inl (inl (refl, is))) in
    not_apart firsts c.args.names.now
    (λ a b n one other. ap (λ (key : Key). key.1) (sym (row a n one).is ∙ (row b n other).is))
    (c.is_number_twice.ensures twice)
