-- Ends in a shared list of groups.
use Rattle.std.proofs.Common.{◌≡◌, refl, suc, ◌++◌, ◌∷◌, [], List, All, length, map, take, drop, ap, ◌∙◌, arith}
use Rattle.std.proofs.lemmas.List.{drop-append-le, length-drop, map-append, take-append-le, take_all}
use Rattle.std.proofs.Math.Seq.{drop-append_seam}
use Rattle.tree_planner.specs.declared.split_ends.Group.{Group}
use Rattle.tree_planner.specs.declared.split_ends.Stored.{Stored}
use Rattle.tree_planner.specs.declared.split_ends.Stored.TheVariants.{Shared, Own}
use Rattle.tree_planner.specs.Ends.{Grouped}
use Rattle.tree_planner.specs.Stored.{stored_at, IsWithin}

-- ends with no worker left out
abbrev unbarred : List Group → Grouped
unbarred groups = record { groups = groups; barred = [] }

-- ends stay the same when the shared list grows
stored_same : (shared more : List Group) (stored : Stored) → IsWithin (length shared) stored
    → stored_at (shared ++ more) stored ≡ stored_at shared stored
stored_same shared more (Shared from count) within =
    (let size = length-drop from shared in
    ap (λ gs. unbarred (take count gs)) (drop-append-le from shared more (omega arith))
    ∙ ap unbarred (take-append-le count (drop from shared) more (omega arith)))
stored_same shared more (Own ends) within = refl

pub all_same : (shared more : List Group) (each : List Stored) → All (IsWithin (length shared)) each
    → map (stored_at (shared ++ more)) each ≡ map (stored_at shared) each
all_same shared more [] within = refl
all_same shared more (stored ∷ each) within =
    ap (λ x. x ∷ map (stored_at (shared ++ more)) each) (stored_same shared more stored (within 0 stored (omega arith)))
    ∙ ap (λ xs. stored_at shared stored ∷ xs) (all_same shared more each
    (λ k d l. within (suc k) d (omega arith)))

-- the groups behind the shared list are the ends that are stored there
pub shared_there : (shared groups : List Group)
    → stored_at (shared ++ groups) (Shared (length shared) (length groups)) ≡ unbarred groups
shared_there shared groups = ap (λ gs. unbarred (take (length groups) gs)) (drop-append_seam shared groups)
    ∙ ap unbarred (take_all (length groups) groups (omega arith))

-- the groups of one split more go behind the shared list, and its ends behind the others
pub share_more : (shared groups : List Group) (each : List Stored) → All (IsWithin (length shared)) each
    → map (stored_at (shared ++ groups)) (each ++ Shared (length shared) (length groups) ∷ [])
    ≡ map (stored_at shared) each ++ unbarred groups ∷ []
share_more shared groups each within =
    map-append (stored_at (shared ++ groups)) each (Shared (length shared) (length groups) ∷ [])
    ∙ ap (λ xs. xs ++ stored_at (shared ++ groups) (Shared (length shared) (length groups)) ∷ [])
    (all_same shared groups each within)
    ∙ ap (λ x. map (stored_at shared) each ++ x ∷ []) (shared_there shared groups)
