-- The laws of the numbering, proved here since an impl cites them: each node has a place of its own, and each
-- place a node.
use Rattle.std.proofs.Common.{◌≡◌, ℕ, ◌+◌, ◌-◌, ◌<◌, ◌≤◌, Bool, true, cond, ◌⊎◌, inl, inr, refl, sym, ap, ◌∙◌}
use Rattle.std.proofs.Common.{arith}
use Rattle.std.specs.Prelude.{nat_lt, if◌then◌else◌, ◌==◌}
use Rattle.std.proofs.lemmas.Bool.{cases_lt, lt-ltb, le-ltb, ltb-true, eq-eqb, ne_eqb}
use Rattle.rack_network.specs.declared.layout.RackNode.{RackNode}
use Rattle.rack_network.specs.declared.layout.RackNode.TheVariants.{Split, Cluster, Centre, Rack, Worker}
use Rattle.rack_network.specs.declared.layout.RackNode.TheVariants.{Unstarted, Sink}
use Rattle.rack_network.specs.Layout.{clusters, place_of, node_of, is_node}

-- the node of the cluster, where there are several centres
pub one_cluster : (c : ℕ) → 1 < c → clusters c ≡ 1
one_cluster c h = ap (λ (b : Bool). cond b 1 0) (lt-ltb 1 c h)

pub no_cluster : (c : ℕ) → c ≤ 1 → clusters c ≡ 0
no_cluster c h = ap (λ (b : Bool). cond b 1 0) (le-ltb 1 c h)

pub several_or_not : (c : ℕ) → ((1 < c) × (clusters c ≡ 1)) ⊎ ((c ≤ 1) × (clusters c ≡ 0))
several_or_not c = elim (cases_lt 1 c) [
  | inl h ↦ inl (h, one_cluster c h)
  | inr h ↦ inr (omega arith, no_cluster c (omega arith))
]

pub several : (c : ℕ) → 0 < clusters c → 1 < c
several c h = elim (several_or_not c)
    [ inl some ↦ some.0 | inr none ↦ absurd (let is = none.1 in omega arith) ]

pub clusters-le : (c : ℕ) → clusters c ≤ 1
clusters-le c = elim (several_or_not c)
    [ inl some ↦ (let is = some.1 in omega arith) | inr none ↦ (let is = none.1 in omega arith) ]

past_lower : (i m : ℕ) (x y : RackNode) → m ≤ i → (if nat_lt i m then x else y) ≡ y
past_lower i m x y l = rw (le-ltb i m l) refl

below_upper : (i m : ℕ) (x y : RackNode) → i < m → (if nat_lt i m then x else y) ≡ x
below_upper i m x y l = rw (lt-ltb i m l) refl

module _ (s c r w : ℕ) where
  -- the nodes between the splits and the centres
  abbrev k : ℕ
  k = clusters c

  at_split : (i : ℕ) → i < s → node_of s c r w i ≡ Split i
  at_split i h = below_upper i s _ _ h

  at_cluster : 1 < c → node_of s c r w s ≡ Cluster
  at_cluster h =
      let one = one_cluster c h in
      past_lower s s _ _ (omega arith) ∙ below_upper s (s + k) _ _ (omega arith)

  at_centre : (i : ℕ) → i < c → node_of s c r w (s + k + i) ≡ Centre i
  at_centre i h =
      past_lower _ s _ _ (omega arith) ∙ past_lower _ (s + k) _ _ (omega arith)
      ∙ below_upper _ (s + k + c) _ _ (omega arith)
      ∙ ap Centre (let back : s + k + i - (s + k) ≡ i = omega arith in back)

  at_rack : (i : ℕ) → i < r → node_of s c r w (s + k + c + i) ≡ Rack i
  at_rack i h =
      past_lower _ s _ _ (omega arith) ∙ past_lower _ (s + k) _ _ (omega arith)
      ∙ past_lower _ (s + k + c) _ _ (omega arith) ∙ below_upper _ (s + k + c + r) _ _ (omega arith)
      ∙ ap Rack (let back : s + k + c + i - (s + k + c) ≡ i = omega arith in back)

  past_racks : (i : ℕ) → s + k + c + r ≤ i → node_of s c r w i
      ≡ (if nat_lt i (s + k + c + r + w) then Worker (i - (s + k + c + r))
      else (if i == s + k + c + r + w then Unstarted else Sink))
  past_racks i l =
      past_lower i s _ _ (omega arith) ∙ past_lower i (s + k) _ _ (omega arith)
      ∙ past_lower i (s + k + c) _ _ (omega arith) ∙ past_lower i (s + k + c + r) _ _ l

  at_worker : (i : ℕ) → i < w → node_of s c r w (s + k + c + r + i) ≡ Worker i
  at_worker i h =
      past_racks (s + k + c + r + i) (omega arith) ∙ below_upper _ (s + k + c + r + w) _ _ (omega arith)
      ∙ ap Worker (let back : s + k + c + r + i - (s + k + c + r) ≡ i = omega arith in back)

  at_unstarted : node_of s c r w (s + k + c + r + w) ≡ Unstarted
  at_unstarted =
      past_racks (s + k + c + r + w) (omega arith) ∙ past_lower _ (s + k + c + r + w) _ _ (omega arith)
      ∙ rw (eq-eqb (s + k + c + r + w) (s + k + c + r + w) refl) refl

  at_sink : node_of s c r w (s + k + c + r + w + 1) ≡ Sink
  at_sink =
      past_racks (s + k + c + r + w + 1) (omega arith) ∙ past_lower _ (s + k + c + r + w) _ _ (omega arith)
      ∙ rw (ne_eqb (s + k + c + r + w + 1) (s + k + c + r + w) (λ e. omega arith)) refl

  pub node_at_place : (n : RackNode) → is_node s c r w n ≡ true → node_of s c r w (place_of s c r w n) ≡ n
  node_at_place (Split i) h = at_split i (ltb-true i s h)
  node_at_place Cluster h = at_cluster (ltb-true 1 c h)
  node_at_place (Centre i) h = at_centre i (ltb-true i c h)
  node_at_place (Rack i) h = at_rack i (ltb-true i r h)
  node_at_place (Worker i) h = at_worker i (ltb-true i w h)
  node_at_place Unstarted h = at_unstarted
  node_at_place Sink h = at_sink

  pub place_below : (n : RackNode) → is_node s c r w n ≡ true → place_of s c r w n < s + k + c + r + w + 2
  place_below (Split i) h = let low = ltb-true i s h in omega arith
  place_below Cluster h = omega arith
  place_below (Centre i) h = let low = ltb-true i c h in omega arith
  place_below (Rack i) h = let low = ltb-true i r h in omega arith
  place_below (Worker i) h = let low = ltb-true i w h in omega arith
  place_below Unstarted h = omega arith
  place_below Sink h = omega arith

  -- each place below the size is that of a node
  abbrev At : ℕ → Type 0
  At i = (n : RackNode) × (is_node s c r w n ≡ true) × (place_of s c r w n ≡ i)

  below_racks : (i : ℕ) → (s ≤ i) → (i < s + k + c) → At i
  below_racks i h l = elim (cases_lt i (s + k)) [
    | inl a ↦ (let many = several c (omega arith) in let one = one_cluster c many in
        (Cluster, lt-ltb 1 c many, omega arith))
    | inr a ↦ (Centre (i - (s + k)), lt-ltb (i - (s + k)) c (omega arith), omega arith)
  ]

  past_centres : (i : ℕ) → (s + k + c ≤ i) → (i < s + k + c + r + w + 2) → At i
  past_centres i h l = elim (cases_lt i (s + k + c + r)) [
    | inl b ↦ (Rack (i - (s + k + c)), lt-ltb (i - (s + k + c)) r (omega arith), omega arith)
    | inr b ↦ elim (cases_lt i (s + k + c + r + w)) [
      | inl d ↦ (Worker (i - (s + k + c + r)), lt-ltb (i - (s + k + c + r)) w (omega arith), omega arith)
      | inr d ↦ elim (cases_lt (s + k + c + r + w) i)
          [ inl f ↦ (Sink, refl, omega arith) | inr f ↦ (Unstarted, refl, omega arith) ]
    ]
  ]

  node_for : (i : ℕ) → i < s + k + c + r + w + 2 → At i
  node_for i h = elim (cases_lt i s) [
    | inl a ↦ (Split i, lt-ltb i s a, refl)
    | inr a ↦ elim (cases_lt i (s + k + c)) [
      | inl b ↦ below_racks i (omega arith) b
      | inr b ↦ past_centres i (omega arith) h
    ]
  ]

  pub member_at : (i : ℕ) → i < s + k + c + r + w + 2 → is_node s c r w (node_of s c r w i) ≡ true
  member_at i h =
      let found = node_for i h in
      ap (λ (j : ℕ). is_node s c r w (node_of s c r w j)) (sym found.2)
      ∙ ap (is_node s c r w) (node_at_place found.0 found.1) ∙ found.1

  pub place_at : (i : ℕ) → i < s + k + c + r + w + 2 → place_of s c r w (node_of s c r w i) ≡ i
  place_at i h =
      let found = node_for i h in
      ap (λ (j : ℕ). place_of s c r w (node_of s c r w j)) (sym found.2)
      ∙ ap (place_of s c r w) (node_at_place found.0 found.1) ∙ found.2
