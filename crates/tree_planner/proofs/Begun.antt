-- A search that has not come to a node yet, and what is left of one that forgets the nodes that it came to.
use Rattle.std.proofs.Common.{◌≡◌, ℕ, ◌+◌, ◌-◌, ◌*◌, ◌^◌, ◌<◌, ◌≤◌, ◌⊎◌, ◌∙◌, length, subst, refl, sym, ap}
use Rattle.std.proofs.Common.{inl, inr, arith}
use Rattle.std.specs.Prelude.{◌≢◌}
use Rattle.std.proofs.lemmas.Bool.{cases_lt}
use Rattle.rack_tree.specs.Tree.{Tree}
use Rattle.tree_flow.specs.declared.nodes.TreeNode.{TreeNode}
use Rattle.tree_flow.specs.declared.nodes.TreeNode.TheVariants.{Worker}
use Rattle.tree_flow.specs.declared.node_table.NodeTable.{NodeTable}
use Rattle.tree_flow.specs.Table.{at_or}
use Rattle.tree_flow.proofs.Moved.{same_or_not}
use Rattle.tree_planner.specs.declared.search.Goal.TheVariants.{Wait}
use Rattle.tree_planner.specs.declared.search.Ground.{Ground}
use Rattle.tree_planner.specs.declared.search.Search.{Search}
use Rattle.tree_planner.specs.Searching.{far_at, order_at, place_at, reached_at, state_at, wave_of}
use Rattle.tree_planner.specs.Searching.{worth_at, HasReached}
use Rattle.tree_planner.specs.Searching.{HasTables, IsBlank, IsCovered, IsGround, IsSearching}
use Rattle.tree_planner.specs.declared.covers.Cover.{Cover}
use Rattle.tree_planner.specs.Covers.{no_cover, IsOverInner}
use Rattle.tree_planner.specs.Lows.{AreLow}

pub begun : (g : Ground) → IsGround g → (search : Search) → IsBlank (wave_of g).tree (length g.nodes.now) search
    → (split least : ℕ) → split < length (wave_of g).splits → least ≤ worth_at g
    → (covers : NodeTable Cover) → IsOverInner (wave_of g).tree covers
    → ((u : TreeNode) → at_or covers no_cover u ≡ no_cover)
    → AreLow (wave_of g) (state_at g) search.lows
    → IsSearching g (record search {
      split = split;
      least = least;
      limit = g.reward - least;
      bound = g.reward - least;
      goal = Wait;
      reached = record search.reached { count = 0 };
      looked = 0;
      covers = covers;
    })
begun g ground search blank split least known most covers over uncovered low =
    let worth = ground.worth in
    let small = ground.small in
    let begins : Search = record search {
      split = split;
      least = least;
      limit = g.reward - least;
      bound = g.reward - least;
      goal = Wait;
      reached = record search.reached { count = 0 };
      looked = 0;
      covers = covers;
    } in
    record {
      tables = record {
        far = blank.tables.far;
        how = blank.tables.how;
        order = blank.tables.order;
        places = blank.tables.places;
        covers = over;
      };
      reached = record {
        room = omega arith;
        blocks = (let room = blank.room in let blocks = blank.blocks in omega arith);
        known = λ k l. absurd (omega arith);
        near = λ k l. absurd (omega arith);
        once = λ j k l m. absurd (omega arith);
        placed = λ v near. absurd (let far = blank.far v in omega arith);
        looked = λ v some. absurd (let none = blank.none v in omega arith);
      };
      room = blank.room;
      fit = omega arith;
      floors = λ v near none. absurd (let far = blank.far v in omega arith);
      limit = omega arith;
      bound = omega arith;
      few = λ v. (let none = blank.none v in omega arith);
      steps = λ v less. absurd (let far = blank.far v in omega arith);
      level = λ u v some none. absurd (let first = blank.none u in omega arith);
      goal = refl;
      bottom = λ w there some.
          (let far = blank.far (Worker w) in let deep = ground.kept.level.bottom w there some in omega arith);
      covered = λ u. subst (λ cover. IsCovered g begins cover u) (sym (uncovered u)) (record {
        known = omega arith;
        near = λ v left. omega arith;
      });
      low = low;
    }

-- the node stands in the row past the first k
abbrev pub IsLater : Search → ℕ → TreeNode → Type 0
IsLater search k v = (j : ℕ) × (k ≤ j) × (j < search.reached.count) × (reached_at search j ≡ v)

-- the node is as if it had not been come to, or stands there
abbrev pub IsForgotten : Search → Search → ℕ → TreeNode → Type 0
IsForgotten old now k v = ((2 ^ 60 ≤ far_at now v) × (order_at now v ≡ 0)) ⊎ IsLater old k v

pub forgotten_first : (tree : Tree) (old : Search) → HasReached tree old → old.limit < 2 ^ 60 → (v : TreeNode)
    → IsForgotten old old 0 v
forgotten_first tree old r short v = elim (cases_lt (far_at old v) (2 ^ 60)) [
  | inl near ↦ inr (let at = r.placed v near in (place_at old v, omega arith, at.0, at.1))
  | inr past ↦ inl (
    past,
    elim (cases_lt 0 (order_at old v)) [
      | inl some ↦ absurd (let near = r.looked v some in omega arith)
      | inr none ↦ omega arith
    ],
  )
]

pub forgotten_next : (old now new : Search) (k : ℕ) (node : TreeNode) → reached_at old k ≡ node
    → 2 ^ 60 ≤ far_at new node → order_at new node ≡ 0
    → ((v : TreeNode) → v ≢ node → far_at new v ≡ far_at now v)
    → ((v : TreeNode) → v ≢ node → order_at new v ≡ order_at now v)
    → (v : TreeNode) → IsForgotten old now k v → IsForgotten old new (k + 1) v
forgotten_next old now new k node is far none far_others order_others v before = elim (same_or_not v node) [
  | inl e ↦ inl (
    (let a = ap (far_at new) e in omega arith),
    (let a = ap (order_at new) e in omega arith),
  )
  | inr n ↦ elim before [
    | inl done ↦ inl (
      (let a = far_others v n in let b = done.0 in omega arith),
      (let a = order_others v n in let b = done.1 in omega arith),
    )
    | inr later ↦ inr (elim (cases_lt k later.0) [
      | inl past ↦ (later.0, omega arith, later.2, later.3)
      | inr here ↦
          (let past = later.1 in
          let e : later.0 ≡ k = omega arith in
          absurd (n (sym later.3 ∙ ap (reached_at old) e ∙ is)))
    ])
  ]
]

pub all_forgotten : (tree : Tree) (old now : Search) → HasTables tree now
    → length now.reached.nodes.items ≡ length old.reached.nodes.items
    → length old.reached.nodes.items < 32 * length now.reached.floors.items → (k : ℕ) → old.reached.count ≤ k
    → ((v : TreeNode) → IsForgotten old now k v) → IsBlank tree (length old.reached.nodes.items) now
all_forgotten tree old now tables room blocks k most forgotten = record {
  tables = tables;
  room = room;
  blocks = blocks;
  far = λ v. elim (forgotten v) [
    | inl done ↦ done.0
    | inr later ↦ absurd (let past = later.1 in let l = later.2 in omega arith)
  ];
  none = λ v. elim (forgotten v) [
    | inl done ↦ done.1
    | inr later ↦ absurd (let past = later.1 in let l = later.2 in omega arith)
  ];
}
