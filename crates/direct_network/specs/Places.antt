-- The laws of the numbering, proved here since an impl cites them: each node has a place of its own, each
-- place a node.
use Rattle.std.proofs.Common.{◌≡◌, ℕ, ◌+◌, ◌-◌, ◌<◌, true, inl, inr, refl, sym, ap, ◌∙◌}
use Rattle.std.proofs.Common.{arith}
use Rattle.std.proofs.lemmas.Bool.{cases_lt, lt-ltb, le-ltb, ltb-true, eq-eqb, ne_eqb}
use Rattle.direct_network.specs.declared.layout.DirectNode.{DirectNode}
use Rattle.direct_network.specs.declared.layout.DirectNode.TheVariants.{Split, Worker, Unstarted, Sink}
use Rattle.direct_network.specs.Layout.{place_of, node_of, is_node}

at_split : (s w i : ℕ) → i < s → node_of s w i ≡ Split i
at_split s w i h = rw (lt-ltb i s h) refl

at_worker : (s w k : ℕ) → k < w → node_of s w (s + k) ≡ Worker k
at_worker s w k h =
    let back : s + k - s ≡ k = omega arith in
    rw (le-ltb (s + k) s (omega arith), lt-ltb (s + k) (s + w) (omega arith), back) refl

at_unstarted : (s w : ℕ) → node_of s w (s + w) ≡ Unstarted
at_unstarted s w =
    let same = eq-eqb (s + w) (s + w) refl in
    rw (le-ltb (s + w) s (omega arith), le-ltb (s + w) (s + w) (omega arith), same) refl

at_sink : (s w : ℕ) → node_of s w (s + w + 1) ≡ Sink
at_sink s w =
    let other = ne_eqb (s + w + 1) (s + w) (λ e. omega arith) in
    rw (le-ltb (s + w + 1) s (omega arith), le-ltb (s + w + 1) (s + w) (omega arith), other) refl

pub node_at_place : (s w : ℕ) (n : DirectNode) → is_node s w n ≡ true → node_of s w (place_of s w n) ≡ n
node_at_place s w (Split k) h = at_split s w k (ltb-true k s h)
node_at_place s w (Worker k) h = at_worker s w k (ltb-true k w h)
node_at_place s w Unstarted h = at_unstarted s w
node_at_place s w Sink h = at_sink s w

pub place_below : (s w : ℕ) (n : DirectNode) → is_node s w n ≡ true → place_of s w n < s + w + 2
place_below s w (Split k) h = omega (arith, ltb-true k s h)
place_below s w (Worker k) h = omega (arith, ltb-true k w h)
place_below s w Unstarted h = omega arith
place_below s w Sink h = omega arith

-- each place below the size is that of a node
node_for : (s w i : ℕ) → i < s + w + 2 → (n : DirectNode) × (is_node s w n ≡ true) × (place_of s w n ≡ i)
node_for s w i h =
    elim (cases_lt i s) [
      | inl a ↦ (Split i, lt-ltb i s a, refl)
      | inr a ↦ elim (cases_lt i (s + w)) [
        | inl b ↦ (Worker (i - s), lt-ltb (i - s) w (omega arith), omega arith)
        | inr b ↦ elim (cases_lt (s + w) i) [
          | inl d ↦ (Sink, refl, omega arith)
          | inr d ↦
              (Unstarted, refl, omega arith)
        ]
      ]
    ]

pub member_at : (s w i : ℕ) → i < s + w + 2 → is_node s w (node_of s w i) ≡ true
member_at s w i h =
    let found = node_for s w i h in
    ap (λ (k : ℕ). is_node s w (node_of s w k)) (sym found.2)
    ∙ ap (is_node s w) (node_at_place s w found.0 found.1) ∙ found.1

pub place_at : (s w i : ℕ) → i < s + w + 2 → place_of s w (node_of s w i) ≡ i
place_at s w i h =
    let found = node_for s w i h in
    ap (λ (k : ℕ). place_of s w (node_of s w k)) (sym found.2)
    ∙ ap (place_of s w) (node_at_place s w found.0 found.1) ∙ found.2
