-- The ends at and under a node above a live holder.
use Rattle.std.proofs.Common.{◌≡◌, ℕ, zero, suc, ◌+◌, ◌*◌, ◌<◌, ◌≤◌, ◌↔◌, Bool, true, cond, nat_lt, List, [], ◌∷◌, ◌++◌, length, get_or, take, filter}
use Rattle.std.proofs.Common.{Contains, refl, sym, ap, ◌∙◌, subst, inl, inr, ◌⊎◌, arith}
use Rattle.std.proofs.lemmas.Bool.{cases_Bool, cases_eq, false≢true}
use Rattle.std.specs.Prelude.{None}
use Rattle.std.proofs.lemmas.List.{get_or_default, take_all, take_more}
use Rattle.std.proofs.lemmas.List.Elements.{All-contains, All-contains_itself, All-filter, filter_passes}
use Rattle.std.proofs.lemmas.List.Elements.{Contains-append_left, Contains-append_right, Contains-push, Contains-push_cases}
use Rattle.rack_tree.specs.Tree.{reach, Tree}
use Rattle.wave_problem.specs.Wave.{Wave, live_holders, split_at, worker_at, worker_in}
use Rattle.tree_flow.specs.declared.nodes.End.{End}
use Rattle.tree_flow.specs.declared.nodes.TreeNode.{TreeNode}
use Rattle.tree_flow.specs.declared.nodes.TreeNode.TheVariants.{Worker}
use Rattle.tree_planner.specs.Bars.{top_of, AreBars, AreMet, HasEndFor, IsLevelEnd, IsTopEnd}
use Rattle.tree_planner.specs.declared.split_ends.Group.{Group}
use Rattle.tree_planner.specs.declared.split_ends.Group.TheVariants.{Single}
use Rattle.tree_planner.specs.Ends.{IsOf}
use Rattle.tree_planner.proofs.Grouped.{push_group}
use Rattle.tree_flow.specs.Nodes.{node_above, parent, is_under, HasBarUnder, IsEnd, IsNode}
use Rattle.tree_flow.proofs.Ends.{under_under}
use Rattle.tree_flow.proofs.Moved.{same_or_not, under_own, parent_under}

pub end_same : (a b : End) → a.node ≡ b.node → a.level ≡ b.level → a ≡ b
end_same a b p q = ap (λ (n : TreeNode). record { node = n; level = a.level }) p
    ∙ ap (λ (l : ℕ). record { node = b.node; level = l }) q

-- what is under a node is the node or hangs from a node under it
parent_or : (tree : Tree) (v top : TreeNode) → is_under tree v top ≡ true
    → (v ≡ top) ⊎ (is_under tree (parent tree v) top ≡ true)
parent_or tree v top under = elim (same_or_not top v) [
  | inl e ↦ inl (sym e)
  | inr n ↦ inr (sym (parent_under tree v top n) ∙ under)
]

bar_up : (wave : Wave) (s : ℕ) (v top : TreeNode) → HasBarUnder wave s v → is_under wave.tree v top ≡ true
    → HasBarUnder wave s top
bar_up wave s v top b under = (b.0, b.1, under_under wave.tree b.0 v top b.2 under, b.3)

-- where no worker under the node is barred, it is the only end there
pub own_top : (wave : Wave) (s : ℕ) (top : End) → IsNode wave.tree top.node → (HasBarUnder wave s top.node → ⊥)
    → IsTopEnd wave s top top
own_top wave s top known free = record {
  known = known;
  level = refl;
  near = under_own wave.tree top.node;
  no_bar = free;
  largest = inl refl;
}

pub only_top : (wave : Wave) (s : ℕ) (top e : End) → (HasBarUnder wave s top.node → ⊥) → IsTopEnd wave s top e
    → top ≡ e
only_top wave s top e free t = end_same top e
    (elim t.largest [
      | inl same ↦ sym same
      | inr bar ↦ elim (parent_or wave.tree e.node top.node t.near) [
        | inl same ↦ sym same
        | inr under ↦ absurd (free (bar_up wave s (parent wave.tree e.node) top.node bar under))
      ]
    ]) (sym t.level)

-- a group whose ends are those at and under a node is added to the groups
pub push_ends : (wave : Wave) (s : ℕ) (top : End) (groups : List Group) (group : Group) (e : End)
    → (IsOf wave.tree (HasBarUnder wave s) group e ↔ IsTopEnd wave s top e)
    → HasEndFor wave s (groups ++ group ∷ []) e ↔ (HasEndFor wave s groups e ⊎ IsTopEnd wave s top e)
push_ends wave s top groups group e same =
    let both = push_group wave.tree (HasBarUnder wave s) groups group e in (
      λ i. elim (both.0 i) [
        | inl before ↦ inl before
        | inr of ↦ inr (same.0 of)
      ],
      λ o. elim o [
        | inl before ↦ both.1 (inl before)
        | inr t ↦ both.1 (inr (same.1 t))
      ],
    )

pub push_top : (wave : Wave) (s : ℕ) (top : End) (groups : List Group) → IsNode wave.tree top.node
    → (HasBarUnder wave s top.node → ⊥) → (e : End)
    → HasEndFor wave s (groups ++ Single top ∷ []) e ↔ (HasEndFor wave s groups e ⊎ IsTopEnd wave s top e)
push_top wave s top groups known free e = push_ends wave s top groups (Single top) e (
  λ is. subst (λ e. IsTopEnd wave s top e) is (own_top wave s top known free),
  λ t. only_top wave s top e free t,
)

-- where no worker at all is barred, a node's own end is added
pub push_unbarred : (wave : Wave) (s : ℕ) → AreBars wave s None → (top : End) (groups : List Group)
    → IsNode wave.tree top.node → (e : End)
    → HasEndFor wave s (groups ++ Single top ∷ []) e ↔ (HasEndFor wave s groups e ⊎ IsTopEnd wave s top e)
push_unbarred wave s bars top groups known e =
    push_top wave s top groups known (λ b. false≢true ((bars.each top.node known).1 b)) e

-- the ends of earlier holders stay there when ends are added
pub still_met : (wave : Wave) (s : ℕ) (holders : List ℕ) (k : ℕ) (old new : List Group) (T : End → Type 0)
    → AreMet wave s holders k old
    → ((e : End) → HasEndFor wave s new e ↔ (HasEndFor wave s old e ⊎ T e)) → AreMet wave s holders k new
still_met wave s holders k old new T before more j e l is = (more e).1 (inl (before j e l is))

-- at first the ends of no level are added
pub below_none : {I : Type 0} (P : ℕ → Type 0) → I ↔ (I ⊎ ((k : ℕ) × (k < 0) × P k))
below_none P = (
  λ has. inl has,
  λ o. elim o [
    | inl has ↦ has
    | inr k ↦ (let none = k.1 in absurd (omega arith))
  ],
)

-- a tree reaches two levels up, or three
pub reach_is : (tree : Tree) → (reach tree ≡ 4) ⊎ (reach tree ≡ 6)
reach_is tree = elim (cases_Bool (nat_lt 1 tree.centres)) [
  | inl one ↦ inr (ap (λ more. cond more 6 4) one)
  | inr none ↦ inl (ap (λ more. cond more 6 4) none)
]

-- the ends of a live holder are the ends at all levels that the tree reaches
pub of_levels : (wave : Wave) (s holder levels : ℕ) (e : End) {N I : Type 0} → reach wave.tree + 2 ≡ 2 * levels
    → (worker_at wave holder).live ≡ true
    → (N ↔ (I ⊎ ((level : ℕ) × (level < levels) × IsTopEnd wave s (top_of wave holder level) e)))
    → (N ↔ (I ⊎ IsLevelEnd wave s holder e))
of_levels wave s holder levels e all live both = (
  λ n. elim (both.0 n) [
    | inl before ↦ inl before
    | inr t ↦ (let few = t.1 in inr (record { live = live; level = t.0; within = omega arith; top = t.2 }))
  ],
  λ o. elim o [
    | inl before ↦ both.1 (inl before)
    | inr t ↦ (let within = t.within in both.1 (inr (t.level, omega arith, t.top)))
  ],
)

-- one element more of a list
pub taken_more : (nodes : List TreeNode) (i : ℕ) → i < length nodes → (v : TreeNode)
    → Contains (take (i + 1) nodes) v ↔ (Contains (take i nodes) v ⊎ (v ≡ get_or nodes i (Worker 0)))
taken_more nodes i l v =
    let more : take (i + 1) nodes ≡ take i nodes ++ get_or nodes i (Worker 0) ∷ [] = take_more nodes i (Worker 0) l in (
      λ has. elim (Contains-push_cases (take i nodes) (get_or nodes i (Worker 0)) v
          (subst (λ xs. Contains xs v) more has)) [
            | inl before ↦ inl before
            | inr is ↦ inr (sym is)
          ],
      λ o. subst (λ xs. Contains xs v) (sym more) (elim o [
        | inl before ↦ Contains-append_left (take i nodes) (get_or nodes i (Worker 0) ∷ []) v before
        | inr is ↦ subst (λ v. Contains (take i nodes ++ get_or nodes i (Worker 0) ∷ []) v) (sym is)
            (Contains-push (take i nodes) (get_or nodes i (Worker 0)))
      ]),
    )

pub all_taken : (nodes : List TreeNode) (i : ℕ) → length nodes ≤ i → (v : TreeNode) → Contains nodes v
    → Contains (take i nodes) v
all_taken nodes i l v has = subst (λ xs. Contains xs v) (sym (take_all i nodes l)) has

-- what a step adds to what was added before, of the numbers below one
pub join_below : {N O I : Type 0} (P : ℕ → Type 0) (i : ℕ) → (N ↔ (O ⊎ P i))
    → (O ↔ (I ⊎ ((k : ℕ) × (k < i) × P k))) → (N ↔ (I ⊎ ((k : ℕ) × (k < i + 1) × P k)))
join_below P i p q = (
  λ n. elim (p.0 n) [
    | inl o ↦ elim (q.0 o) [
      | inl before ↦ inl before
      | inr k ↦ (let l = k.1 in inr (k.0, omega arith, k.2))
    ]
    | inr now ↦ inr (i, omega arith, now)
  ],
  λ h. elim h [
    | inl before ↦ p.1 (inl (q.1 (inl before)))
    | inr k ↦ elim (cases_eq k.0 i) [
      | inl e ↦ p.1 (inr (subst P e k.2))
      | inr n ↦ (let l = k.1 in p.1 (inl (q.1 (inr (k.0, omega arith, k.2)))))
    ]
  ],
)

pub from_below : {N O : Type 0} (P : ℕ → Type 0) (i : ℕ) → (N ↔ (O ⊎ P i)) → (O ↔ ((k : ℕ) × (k < i) × P k))
    → (N ↔ ((k : ℕ) × (k < i + 1) × P k))
from_below P i p q = (
  λ n. elim (p.0 n) [
    | inl o ↦ (let k = q.0 o in let l = k.1 in (k.0, omega arith, k.2))
    | inr now ↦ (i, omega arith, now)
  ],
  λ k. elim (cases_eq k.0 i) [
    | inl e ↦ p.1 (inr (subst P e k.2))
    | inr n ↦ (let l = k.1 in p.1 (inl (q.1 (k.0, omega arith, k.2))))
  ],
)

-- a number that a filter keeps is one of the list's, and passes; and one that passes is kept
kept_of : (p : ℕ → Bool) (xs : List ℕ) (x : ℕ) → Contains (filter p xs) x → (k : ℕ) × (k < length xs)
    × (get_or xs k 0 ≡ x) × (p x ≡ true)
kept_of p xs x i =
    let kept = All-filter p (Contains xs) xs (All-contains_itself xs) in
    let c = All-contains (Contains xs) (filter p xs) x kept i in (
      c.0,
      c.1,
      get_or_default xs c.0 0 x c.1 ∙ c.2,
      All-contains (λ x. p x ≡ true) (filter p xs) x (filter_passes p xs) i,
    )

keeps : (p : ℕ → Bool) (xs : List ℕ) (k : ℕ) → k < length xs → p (get_or xs k 0) ≡ true
    → Contains (filter p xs) (get_or xs k 0)
keeps p [] k l t = absurd (omega arith)
keeps p (y ∷ ys) zero l t = rw t (0, omega arith, refl)
keeps p (y ∷ ys) (suc k) l t = elim (cases_Bool (p y)) [
  | inl passes ↦ rw passes (Contains-append_right (y ∷ []) (filter p ys) (get_or ys k 0) (keeps p ys k (omega arith) t))
  | inr fails ↦ rw fails (keeps p ys k (omega arith) t)
]

-- the ends by their holders are all ends
pub level_ends : (wave : Wave) (s : ℕ) (e : End) → (split_at wave s).pending ≡ true
    → ((k : ℕ) × (k < length (split_at wave s).holders) × IsLevelEnd wave s (get_or (split_at wave s).holders k 0) e)
    ↔ IsEnd wave s e
level_ends wave s e pending = (
  λ l. of_level (get_or (split_at wave s).holders l.0 0)
      (keeps (λ h. (worker_in wave.workers h).live) (split_at wave s).holders l.0 l.1 l.2.live) l.2,
  λ is.
      (let h = kept_of (λ h. (worker_in wave.workers h).live) (split_at wave s).holders is.holder is.held in (
        h.0,
        h.1,
        subst (λ h. IsLevelEnd wave s h e) (sym h.2) (record {
          live = h.3;
          level = e.level;
          within = is.level;
          top = record { known = is.known; level = refl; near = is.near; no_bar = is.no_bar; largest = is.largest };
        }),
      )),
)
  where
    of_level : (h : ℕ) → Contains (live_holders wave s) h → IsLevelEnd wave s h e → IsEnd wave s e
    of_level h held i =
        let t = i.top in
        let level = t.level in
        let within = i.within in
        record {
          pending = pending;
          known = t.known;
          level = omega arith;
          holder = h;
          held = held;
          near = subst (λ (l : ℕ). is_under wave.tree e.node (node_above wave.tree l h) ≡ true) (sym level) t.near;
          no_bar = t.no_bar;
          largest = subst (λ (l : ℕ). (e.node ≡ node_above wave.tree l h) ⊎ HasBarUnder wave s (parent wave.tree e.node))
              (sym level) t.largest;
        }

-- what has an end for each of the holders has all ends
pub ends_of_all : (wave : Wave) (s : ℕ) (e : End) (Has : Type 0) (holders : List ℕ) (k : ℕ)
    → (split_at wave s).pending ≡ true → holders ≡ (split_at wave s).holders → k ≡ length holders
    → Has ↔ ((j : ℕ) × (j < k) × IsLevelEnd wave s (get_or holders j 0) e) → Has ↔ IsEnd wave s e
ends_of_all wave s e Has holders k pending same all has =
    let ends : ((j : ℕ) × (j < length holders) × IsLevelEnd wave s (get_or holders j 0) e) ↔ IsEnd wave s e =
    subst (λ xs. ((j : ℕ) × (j < length xs) × IsLevelEnd wave s (get_or xs j 0) e) ↔ IsEnd wave s e) (sym same)
    (level_ends wave s e pending) in
    let each : Has ↔ ((j : ℕ) × (j < length holders) × IsLevelEnd wave s (get_or holders j 0) e) =
    subst (λ n. Has ↔ ((j : ℕ) × (j < n) × IsLevelEnd wave s (get_or holders j 0) e)) all has in
    (λ h. ends.0 (each.0 h), λ is. each.1 (ends.1 is))
