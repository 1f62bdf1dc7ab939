-- The row of the nodes that a search has reached.
use Rattle.std.proofs.Common.{◌≡◌, ℕ, zero, suc, ◌+◌, ◌-◌, ◌^◌, ◌<◌, ◌≤◌, ◌⊎◌, [], ◌∷◌, ◌++◌, List, length, Contains}
use Rattle.std.proofs.Common.{length-append, refl, sym, ap, ◌∙◌, subst, inl, inr, arith}
use Rattle.std.specs.Prelude.{◌≢◌, nat_lt}
use Rattle.std.proofs.lemmas.Bool.{cases_lt, le-ltb, lt-ltb, ltb-true}
use Rattle.std.proofs.lemmas.List.{get_or_append_left, get_or-append_right}
use Rattle.rack_tree.specs.Tree.{Tree}
use Rattle.tree_flow.specs.declared.nodes.TreeNode.{TreeNode}
use Rattle.tree_flow.specs.declared.nodes.TreeNode.TheVariants.{Centre, Cluster, Rack, Worker}
use Rattle.tree_flow.specs.Nodes.{IsNode}
use Rattle.tree_flow.proofs.Moved.{same_or_not}
use Rattle.tree_planner.specs.Reaching.{all_of, is_reached, node_count, node_in, numbered, IsAdded, IsRow, StandsIn}
use Rattle.tree_planner.proofs.Counted.{count_grows, count_less, count_missed}

numbered_count : (node : ℕ → TreeNode) (n : ℕ) (others : List TreeNode)
    → length (numbered node n others) ≡ n + length others
numbered_count node zero others = omega arith
numbered_count node (suc n) others = (let rest = numbered_count node n others in omega arith)

-- a node of a list stands in a longer one
later : (v u : TreeNode) (us : List TreeNode) → Contains us v → Contains (u ∷ us) v
later v u us i = (suc i.0, (let l = i.1 in omega arith), i.2)

has_others : (node : ℕ → TreeNode) (n : ℕ) (others : List TreeNode) (v : TreeNode) → Contains others v
    → Contains (numbered node n others) v
has_others node zero others v i = i
has_others node (suc n) others v i = later v (node n) (numbered node n others) (has_others node n others v i)

has_number : (node : ℕ → TreeNode) (n : ℕ) (others : List TreeNode) (k : ℕ) → k < n
    → Contains (numbered node n others) (node k)
has_number node zero others k l = absurd (omega arith)
has_number node (suc n) others k l = elim (cases_lt k n) [
  | inl less ↦ later (node k) (node n) (numbered node n others) (has_number node n others k less)
  | inr past ↦
      (let e : n ≡ k = omega arith in
      (0, omega arith, ap node e))
]

all_count : (tree : Tree) → length (all_of tree) ≡ node_count tree
all_count tree =
    let cluster = Cluster ∷ [] in
    let centres = numbered Centre tree.centres cluster in
    let racks = numbered Rack (length tree.centre_of) centres in
    let a = numbered_count Worker (length tree.rack_of) racks in
    let b = numbered_count Rack (length tree.centre_of) centres in
    let c = numbered_count Centre tree.centres cluster in
    omega arith

has_all : (tree : Tree) (v : TreeNode) → IsNode tree v → Contains (all_of tree) v
has_all tree (Worker w) l = has_number Worker (length tree.rack_of) _ w l
has_all tree (Rack r) l = has_others Worker (length tree.rack_of) _ (Rack r)
    (has_number Rack (length tree.centre_of) _ r l)
has_all tree (Centre c) l = has_others Worker (length tree.rack_of) _ (Centre c)
    (has_others Rack (length tree.centre_of) _ (Centre c) (has_number Centre tree.centres _ c l))
has_all tree Cluster l = has_others Worker (length tree.rack_of) _ Cluster
    (has_others Rack (length tree.centre_of) _ Cluster
    (has_others Centre tree.centres _ Cluster (0, omega arith, refl)))

pub no_row : (tree : Tree) (far : TreeNode → ℕ) → ((v : TreeNode) → 2 ^ 60 ≤ far v) → IsRow tree far []
no_row tree far away = record {
  known = λ k l. absurd (omega arith);
  near = λ k l. absurd (omega arith);
  once = λ j k l m. absurd (omega arith);
  placed = λ v near. absurd (let past = away v in omega arith);
  fit = omega arith;
}

-- there is room for a node that is not reached yet
pub row_short : (tree : Tree) (far : TreeNode → ℕ) (row : List TreeNode) → IsRow tree far row → (v : TreeNode)
    → IsNode tree v → 2 ^ 60 ≤ far v → length row < node_count tree
row_short tree far row r v known past =
    let missed = count_missed (is_reached far) v (le-ltb (far v) (2 ^ 60) past) (all_of tree) (has_all tree v known) in
    let fit = r.fit in
    let all = all_count tree in
    omega arith

-- what stands in a longer row
module _ (row : List TreeNode) (v : TreeNode) where
  pub one_longer : length (row ++ v ∷ []) ≡ length row + 1
  one_longer = length-append row (v ∷ [])

  pub first_in : (k : ℕ) → k < length row → node_in (row ++ v ∷ []) k ≡ node_in row k
  first_in k l = get_or_append_left row (v ∷ []) (Worker 0) k l

  pub last_in : node_in (row ++ v ∷ []) (length row) ≡ v
  last_in =
      let none : length row - length row ≡ 0 = omega arith in
      get_or-append_right row (v ∷ []) (length row) (length row) (Worker 0) refl (omega arith)
      ∙ ap (λ (k : ℕ). node_in (v ∷ []) k) none

  pub stands_first : (u : TreeNode) → StandsIn row u → StandsIn (row ++ v ∷ []) u
  stands_first u at = (at.0, (let l = at.1 in let size = one_longer in omega arith), first_in at.0 at.1 ∙ at.2)

  pub stands_last : StandsIn (row ++ v ∷ []) v
  stands_last = (length row, (let size = one_longer in omega arith), last_in)

  -- a node of the longer row is its last, or stands in the shorter one
  pub first_or_last : (k : ℕ) → k < length (row ++ v ∷ [])
      → ((k < length row) × (node_in (row ++ v ∷ []) k ≡ node_in row k)) ⊎ (node_in (row ++ v ∷ []) k ≡ v)
  first_or_last k l = elim (cases_lt k (length row)) [
    | inl less ↦ inl (less, first_in k less)
    | inr past ↦
        (let size = one_longer in
        let e : k ≡ length row = omega arith in
        inr (ap (λ (k : ℕ). node_in (row ++ v ∷ []) k) e ∙ last_in))
  ]

-- a node that is reached, or comes nearer
module _ (tree : Tree) (old new : TreeNode → ℕ) (node : TreeNode) (near : new node < 2 ^ 60)
    (others : (v : TreeNode) → v ≢ node → new v ≡ old v) where
  here_or_same : (v : TreeNode) → (v ≡ node) ⊎ (new v ≡ old v)
  here_or_same v = elim (same_or_not v node) [
    | inl e ↦ inl e
    | inr n ↦ inr (others v n)
  ]

  still_near : (v : TreeNode) → old v < 2 ^ 60 → new v < 2 ^ 60
  still_near v less = elim (here_or_same v) [
    | inl e ↦ (let a = ap new e in omega arith)
    | inr same ↦ omega arith
  ]

  row_same : (row : List TreeNode) → IsRow tree old row → old node < 2 ^ 60 → IsRow tree new row
  row_same row r before = record {
    known = r.known;
    near = λ k l. still_near (node_in row k) (r.near k l);
    once = r.once;
    placed = λ v less. elim (here_or_same v) [
      | inl e ↦ r.placed v (let a = ap old e in omega arith)
      | inr same ↦ r.placed v (omega arith)
    ];
    fit =
        (let grows = count_grows (is_reached old) (is_reached new)
        (λ v come. lt-ltb (new v) (2 ^ 60) (still_near v (ltb-true (old v) (2 ^ 60) come))) (all_of tree) in
        let fit = r.fit in
        omega arith);
  }

  row_more : (row : List TreeNode) → IsRow tree old row → IsNode tree node → 2 ^ 60 ≤ old node
      → IsRow tree new (row ++ node ∷ [])
  row_more row r known past = record {
    known = λ k l. elim (first_or_last row node k l) [
      | inl first ↦ subst (IsNode tree) (sym first.1) (r.known k first.0)
      | inr last ↦ subst (IsNode tree) (sym last) known
    ];
    near = λ k l. elim (first_or_last row node k l) [
      | inl first ↦ (let a = ap new first.1 in let less = still_near (node_in row k) (r.near k first.0) in omega arith)
      | inr last ↦ (let a = ap new last in omega arith)
    ];
    once = λ j k l m e.
        (let size = one_longer row node in
        let first = first_in row node j (omega arith) in
        elim (first_or_last row node k m) [
          | inl there ↦ r.once j k l there.0 (sym first ∙ e ∙ there.1)
          | inr last ↦
              (let less = r.near j (omega arith) in
              let a = ap old (sym first ∙ e ∙ last) in
              omega arith)
        ]);
    placed = λ v less. elim (here_or_same v) [
      | inl e ↦ subst (StandsIn (row ++ node ∷ [])) (sym e) (stands_last row node)
      | inr same ↦ stands_first row node v (r.placed v (omega arith))
    ];
    fit =
        (let more = count_less (is_reached new) (is_reached old) node (lt-ltb (new node) (2 ^ 60) near)
        (le-ltb (old node) (2 ^ 60) past) (λ v n. ap (λ (d : ℕ). nat_lt d (2 ^ 60)) (sym (others v n)))
        (all_of tree) (has_all tree node known) in
        let fit = r.fit in
        let size = one_longer row node in
        omega arith);
  }

  pub row_noted : (row longer : List TreeNode) → IsRow tree old row → IsNode tree node
      → IsAdded row longer node (old node) → IsRow tree new longer
  row_noted row longer r known added = elim (cases_lt (old node) (2 ^ 60)) [
    | inl before ↦ subst (IsRow tree new) (sym (added.same before)) (row_same row r before)
    | inr past ↦ subst (IsRow tree new) (sym (added.fresh past)) (row_more row r known past)
  ]

-- Nodes are forgotten, from the last in the row on: each node stands in the row, or is as if never reached.
pub record IsLeft (tree : Tree) (far order : TreeNode → ℕ) (row : List TreeNode) : Type 0 where
  pub known : (k : ℕ) → k < length row → IsNode tree (node_in row k)
  pub each : (v : TreeNode) → ((far v ≡ 2 ^ 60) × (order v ≡ 0)) ⊎ StandsIn row v

pub all_left : (tree : Tree) (far order : TreeNode → ℕ) (row : List TreeNode) → IsRow tree far row
    → ((v : TreeNode) → far v ≤ 2 ^ 60) → ((v : TreeNode) → 0 < order v → far v < 2 ^ 60) → IsLeft tree far order row
all_left tree far order row r most looked = record {
  known = r.known;
  each = λ v. elim (cases_lt (far v) (2 ^ 60)) [
    | inl near ↦ inr (r.placed v near)
    | inr past ↦ inl (
      (let less = most v in omega arith),
      elim (cases_lt 0 (order v)) [
        | inl some ↦ absurd (let near = looked v some in omega arith)
        | inr none ↦ omega arith
      ],
    )
  ];
}

pub last_known : (tree : Tree) (far order : TreeNode → ℕ) (row rest : List TreeNode) (node : TreeNode)
    → row ≡ rest ++ node ∷ [] → IsLeft tree far order row → IsNode tree node
last_known tree far order row rest node is left =
    subst (IsNode tree) (last_in rest node)
    (subst (λ row. IsNode tree (node_in row (length rest))) is (left.known (length rest) (let size = ap length is in let more = one_longer rest node in omega arith)))

pub one_left : (tree : Tree) (far order new_far new_order : TreeNode → ℕ) (row rest : List TreeNode) (node : TreeNode)
    → row ≡ rest ++ node ∷ [] → new_far node ≡ 2 ^ 60 → new_order node ≡ 0
    → ((v : TreeNode) → v ≢ node → new_far v ≡ far v) → ((v : TreeNode) → v ≢ node → new_order v ≡ order v)
    → IsLeft tree far order row → IsLeft tree new_far new_order rest
one_left tree far order new_far new_order row rest node is away none far_others order_others left = record {
  known = λ k l. subst (IsNode tree) (first_in rest node k l)
      (subst (λ row. IsNode tree (node_in row k)) is (left.known k (let size = ap length is in let more = one_longer rest node in omega arith)));
  each = λ v. elim (same_or_not v node) [
    | inl e ↦ inl (ap new_far e ∙ away, ap new_order e ∙ none)
    | inr n ↦ elim (left.each v) [
      | inl done ↦ inl (far_others v n ∙ done.0, order_others v n ∙ done.1)
      | inr at ↦
          (let there : StandsIn (rest ++ node ∷ []) v = subst (λ row. StandsIn row v) is at in
          elim (first_or_last rest node there.0 there.1) [
            | inl first ↦ inr (there.0, first.0, sym first.1 ∙ there.2)
            | inr last ↦ absurd (n (sym there.2 ∙ last))
          ])
    ]
  ];
}
