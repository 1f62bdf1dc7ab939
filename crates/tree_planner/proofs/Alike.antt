-- Where the line, the live holders and the bars of a split are the same, so are its ends.
use Rattle.std.proofs.Common.{[], ◌≡◌, ℕ, suc, ◌*◌, ◌<◌, ◌≤◌, ◌↔◌, true, cond, List, ◌∷◌}
use Rattle.std.proofs.Common.{length, Contains, refl, sym, ap, ◌∙◌, subst, inl, inr, arith, get_or}
use Rattle.std.proofs.lemmas.List.{ext_get_or}
use Rattle.node_ids.specs.Sets.{HasPair}
use Rattle.rack_tree.specs.Tree.{reach, Tree}
use Rattle.wave_problem.specs.declared.lines.WorkerLine.{WorkerLine}
use Rattle.wave_problem.specs.Wave.{live_among, live_holders, split_at, worker_in, Wave}
use Rattle.tree_flow.specs.declared.nodes.End.{End}
use Rattle.tree_flow.specs.declared.nodes.TreeNode.{TreeNode}
use Rattle.tree_flow.specs.declared.nodes.TreeNode.TheVariants.{Worker}
use Rattle.tree_flow.specs.Nodes.{is_under, node_above, parent, HasBarUnder, IsEnd, IsNode}

-- the same ones of a list live
live_on : (old new : List WorkerLine) (xs : List ℕ)
    → ((i : ℕ) → i < length xs → (worker_in new (get_or xs i 0)).live ≡ (worker_in old (get_or xs i 0)).live)
    → live_among new xs ≡ live_among old xs
live_on old new [] same = refl
live_on old new (x ∷ xs) same =
    ap (λ b. cond b (x ∷ live_among new xs) (live_among new xs)) (same 0 (omega arith))
    ∙ ap (λ ys. cond (worker_in old x).live (x ∷ ys) ys)
    (live_on old new xs (λ i l. same (suc i) (omega arith)))

pub live_alike : (old new : List WorkerLine) (xs ys : List ℕ) → length ys ≡ length xs
    → ((i : ℕ) → i < length xs → get_or ys i 0 ≡ get_or xs i 0)
    → ((i : ℕ) → i < length xs → (worker_in new (get_or ys i 0)).live ≡ (worker_in old (get_or xs i 0)).live)
    → live_among new ys ≡ live_among old xs
live_alike old new xs ys size same live =
    let are : ys ≡ xs = ext_get_or 0 ys xs size (λ i l. same i (omega arith)) in
    ap (live_among new) are
    ∙ live_on old new xs (λ i l. ap (λ x. (worker_in new x).live) (sym (same i l)) ∙ live i l)

-- an end of the split in one wave is one in another
carried : (one other : Wave) (s : ℕ) → other.tree ≡ one.tree
    → (split_at other s).pending ≡ (split_at one s).pending → live_holders other s ≡ live_holders one s
    → ((v : TreeNode) → HasBarUnder other s v → HasBarUnder one s v)
    → ((v : TreeNode) → HasBarUnder one s v → HasBarUnder other s v)
    → (e : End) → IsEnd one s e → IsEnd other s e
carried one other s tree pending holders down up e is = record {
  pending = pending ∙ is.pending;
  known = subst (λ (x : Tree). IsNode x e.node) (sym tree) is.known;
  level = subst (λ (x : Tree). 2 * e.level ≤ reach x) (sym tree) is.level;
  holder = is.holder;
  held = subst (λ xs. Contains xs is.holder) (sym holders) is.held;
  near = subst (λ (x : Tree). is_under x e.node (node_above x e.level is.holder) ≡ true) (sym tree) is.near;
  no_bar = λ b. is.no_bar (down e.node b);
  largest = elim is.largest [
    | inl top ↦ inl (top ∙ ap (λ (x : Tree). node_above x e.level is.holder) (sym tree))
    | inr b ↦ inr (subst (λ (x : Tree). HasBarUnder other s (parent x e.node)) (sym tree)
        (up (parent one.tree e.node) b))
  ];
}

module _ (one other : Wave) (s : ℕ) (tree : other.tree ≡ one.tree)
    (workers : length other.workers ≡ length one.workers)
    (bars : (w : ℕ) → HasPair other.barred s w ↔ HasPair one.barred s w) where
  bar_down : (v : TreeNode) → HasBarUnder other s v → HasBarUnder one s v
  bar_down v b = (
    b.0,
    (let l = b.1 in omega arith),
    subst (λ (x : Tree). is_under x (Worker b.0) v ≡ true) tree b.2,
    (bars b.0).0 b.3,
  )

  bar_up : (v : TreeNode) → HasBarUnder one s v → HasBarUnder other s v
  bar_up v b = (
    b.0,
    (let l = b.1 in omega arith),
    subst (λ (x : Tree). is_under x (Worker b.0) v ≡ true) (sym tree) b.2,
    (bars b.0).1 b.3,
  )

  pub ends_alike : (split_at other s).pending ≡ (split_at one s).pending
      → live_holders other s ≡ live_holders one s → (e : End) → IsEnd other s e ↔ IsEnd one s e
  ends_alike pending holders e = (
    carried other one s (sym tree) (sym pending) (sym holders) bar_up bar_down e,
    carried one other s tree pending holders bar_down bar_up e,
  )
