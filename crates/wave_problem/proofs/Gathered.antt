-- The least distance to one of a list of workers, by who stands in it, and in which racks and centres.
use Rattle.std.proofs.Common.{[], ◌≡◌, ℕ, ◌<◌, ◌≤◌, min, List, ◌∷◌, length, map}
use Rattle.std.proofs.Common.{fold, Some, ap, ◌∙◌, arith, slice_index}
use Rattle.std.specs.Prelude.{◌==◌, if◌then◌else◌}
use Rattle.std.specs.List.{list_any}
use Rattle.rack_tree.specs.Tree.{Tree, centre_at, distance}
use Rattle.wave_problem.specs.Sums.{least}

-- the steps from a worker of the tree to the nearest of a list of others, or 6 where the list is empty
abbrev pub steps_to : Tree → ℕ → List ℕ → ℕ
steps_to tree w live =
    if list_any (λ h. h == w) live then 0
    else if list_any (λ h. slice_index tree.rack_of h == slice_index tree.rack_of w) live then 2
    else if list_any (λ h. centre_at tree h == centre_at tree w) live then 4
    else 6

steps_to-cons : (tree : Tree) (w h : ℕ) (live : List ℕ) → min (distance tree h w)
    (steps_to tree w live) ≡ steps_to tree w (h ∷ live)
steps_to-cons tree w h live = grind arith

fold_near : (tree : Tree) (w x : ℕ) (live : List ℕ) → x ≤ 6 →
    fold min x (map (λ h. distance tree h w) live) ≡ min x (steps_to tree w live)
fold_near tree w x [] small = omega arith
fold_near tree w x (h ∷ live) small =
    let rest = fold_near tree w (min x (distance tree h w)) live (omega arith) in
    let regrouped : min (min x (distance tree h w)) (steps_to tree w live) ≡ min x
    (min (distance tree h w) (steps_to tree w live)) = omega arith in
    rest ∙ regrouped ∙ ap (min x) (steps_to-cons tree w h live)

-- the least distance to one of a list is told by who stands in it, and in which racks and centres
pub least_near : (tree : Tree) (w : ℕ) (live : List ℕ) → 0 < length live →
    least (map (λ h. distance tree h w) live) ≡ Some (steps_to tree w live)
least_near tree w [] some = absurd (omega arith)
least_near tree w (h ∷ live) some = grind (arith, fold_near, steps_to-cons)
