use Rattle.std.proofs.Common.{◌≡◌, List, ℕ, eqb, sym, subst, ◌∙◌}
use Rattle.std.proofs.lemmas.Bool.Decides.{Decides-eqb}
use Rattle.std.proofs.lemmas.Slice.Eq.{slice_eq-Decides}
use Rattle.tree_planner.specs.Ends.{IsIn}
use Rattle.tree_planner.proofs.like.has_same_bars.Goals as goal

pub returns : goal.returns
returns c = λ same w.
    (let before = c.bars-before.result.now in
    let after = c.bars-after.result.now in
    let decides = slice_eq-Decides {E = eqb} Decides-eqb before after c.eq.result c.eq.ensures in
    let alike : before ≡ after = decides.0 same in
    let rows = sym c.bars-before.ensures.row ∙ alike ∙ c.bars-after.ensures.row in (
      λ has. subst (λ (row : List ℕ). IsIn row w) (sym rows) has,
      λ has. subst (λ (row : List ℕ). IsIn row w) rows has,
    ))
