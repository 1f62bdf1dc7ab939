use Rattle.std.proofs.Common.{ℕ, subst, sym}
use Rattle.std.specs.Prelude.{MatchOption}
use Rattle.line_shapes.specs.declared.keyword.Keyword.{Keyword}
use Rattle.line_rules.specs.Entering.{Key}
use Rattle.line_rules.specs.Rows.{IsBarred}
use Rattle.line_rules.proofs.rows.bar_number.Goals as goal

pub returns-in-Barred : goal.returns-in-Barred
returns-in-Barred c rows tabled =
    let Has : Keyword → ℕ → Type 0 =
    λ k n. IsBarred rows c.args.bars.now.entries (k, c.args.first.now, c.args.second.now) n in
    subst (λ (k : Keyword). MatchOption c.pair_number.result ((n : ℕ) → Has k n → ⊥) (Has k))
    (sym c.in-Barred.is) (c.pair_number.ensures rows tabled)
