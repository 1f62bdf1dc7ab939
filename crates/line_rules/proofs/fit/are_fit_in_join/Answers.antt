use Rattle.std.proofs.Common.{ℕ, List, ◌≢◌, Bor, subst}
use Rattle.std.specs.List.{AllPairs}
use Rattle.line_rules.proofs.Numbered.{AreSplits, behind, joined_apart, joined_fit}
use Rattle.line_rules.proofs.fit.are_fit_in_join.Goals as goal

pub returns-clause-fit : goal.returns-clause-fit
returns-clause-fit c t =
    let words = c.args.words.now in
    joined_fit c.args.version c.args.rows.now words _ (c.is_fit.ensures c.if-not-is_fit.false)
    (subst (AreSplits c.args.rows.now) (behind words) (c.are_splits_apart.ensures.named t))

pub returns-clause-apart : goal.returns-clause-apart
returns-clause-apart c t =
    let words = c.args.words.now in
    joined_apart words
    (subst (AllPairs (λ (a b : Bor (List ℕ)). a.now ≢ b.now)) (behind words)
    (c.are_splits_apart.ensures.apart t))
