use Rattle.std.proofs.Common.{◌≢◌, ℕ, List, Bor, subst, sym}
use Rattle.std.specs.List.{AllPairs}
use Rattle.line_shapes.specs.Lines.{HasTailApart, stated}
use Rattle.line_shapes.specs.declared.keyword.Keyword.{Keyword}
use Rattle.line_rules.proofs.Numbered.{behind, joined_differ}
use Rattle.line_rules.proofs.known.has_split_twice.Goals as goal

pub returns-in-Join : goal.returns-in-Join
returns-in-Join c twice apart =
    let words = c.args.line.now.words.now in
    let joined = subst (λ (k : Keyword). HasTailApart (stated k words)) c.in-Join.is apart in
    c.is_split_twice.ensures twice
    (subst (AllPairs (λ (a b : Bor (List ℕ)). a.now ≢ b.now)) (sym (behind words))
    (joined_differ words joined))
