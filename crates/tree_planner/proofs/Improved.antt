-- What stays where nodes come nearer.
use Rattle.std.proofs.Common.{◌≡◌, ℕ, ◌+◌, ◌^◌, ◌<◌, ◌≤◌, refl, sym, ap, ◌∙◌, subst, inl, inr, arith, length}
use Rattle.std.proofs.Common.{◌/◌, count_by, get_or, get_or-set_same, get_or-set_other, length-set}
use Rattle.std.specs.Prelude.{◌≢◌, nat_lt}
use Rattle.std.proofs.lemmas.Bool.{cases_lt, le-ltb, lt-ltb, ltb-true}
use Rattle.rack_tree.specs.Tree.{Tree}
use Rattle.tree_flow.specs.declared.nodes.TreeNode.TheVariants.{Cluster, Worker}
use Rattle.tree_planner.specs.declared.reached.Reached.{Reached}
use Rattle.tree_planner.specs.Reaching.{HasRoom, IsNoted}
use Rattle.tree_planner.specs.Searching.{floor_at, has_come, place_at, reached_at, HasReached}
use Rattle.tree_planner.specs.Searching.{HasTables, IsGround}
use Rattle.tree_planner.proofs.Added.{over_sized}
use Rattle.tree_planner.proofs.Counted.{count_grows, count_less}
use Rattle.tree_planner.proofs.Room.{room_left}
use Rattle.tree_flow.specs.declared.node_table.NodeTable.{NodeTable}
use Rattle.tree_flow.specs.declared.nodes.End.{End}
use Rattle.tree_flow.specs.declared.nodes.TreeNode.{TreeNode}
use Rattle.tree_planner.specs.declared.search.Goal.{Goal}
use Rattle.tree_planner.specs.declared.search.Goal.TheVariants.{Wait, Slot, Off}
use Rattle.tree_planner.specs.declared.search.Ground.{Ground}
use Rattle.tree_planner.specs.declared.search.Search.{Search}
use Rattle.tree_planner.specs.declared.search.Step.{Step}
use Rattle.tree_planner.specs.declared.search.Step.TheVariants.{Start, Down, Up, Over}
use Rattle.tree_flow.specs.Nodes.{parent, IsEnd, IsNode}
use Rattle.tree_flow.specs.State.{reach_cost}
use Rattle.tree_planner.specs.Searching.{order_at, far_at, step_at, state_at, wave_of, EndsIn, GoesAllOver}
use Rattle.tree_planner.specs.Searching.{cover_at, next_price, EndsInSlot, HasLookedFrom, IsCovered, IsFound}
use Rattle.tree_planner.specs.Searching.{IsOpenAt, IsRest}
use Rattle.tree_planner.specs.declared.covers.Cover.{Cover}
use Rattle.tree_planner.specs.declared.lows.Lows.{Lows}
use Rattle.tree_planner.specs.Covers.{no_cover}
use Rattle.tree_planner.specs.Lows.{AreLow}
use Rattle.tree_planner.specs.Searching.{HasStarted, IsStartedAt, Improves, IsAt, IsBefore, IsDown, IsLastOne}
use Rattle.tree_planner.specs.Searching.{IsNearer, IsNearest, IsSearching, LeadsTo, Settles}
use Rattle.tree_flow.specs.Table.{at_or, IsOver, IsSized}
use Rattle.tree_flow.proofs.Moved.{same_or_not}
use Rattle.tree_planner.proofs.Ordered.{few_next, first_next, last_next, open_before, some_later}

pub improves_refl : (s : Search) → Improves s s
improves_refl s = record {
  nearer = record {
    split = refl;
    least = refl;
    limit = refl;
    bound = omega arith;
    far = λ v. omega arith;
    settled = λ u l. refl;
  };
  looked = refl;
  order = refl;
}

pub same_order : (old new : Search) → Improves old new → (v : TreeNode) → order_at new v ≡ order_at old v
same_order old new i v = ap (λ (t : NodeTable ℕ). at_or t 0 v) i.order

-- what holds of a search holds of one that came nearer, whose order goes on
module _ (old new : Search) (i : IsNearer old new)
    (before_kept : (u x : TreeNode) → IsBefore old u x → IsBefore new u x)
    (some_kept : (u : TreeNode) → 0 < order_at old u → 0 < order_at new u) where
  pub leads_kept : (g : Ground) (x : TreeNode) (d : ℕ) (step : Step) → LeadsTo g old x d step → LeadsTo g new x d step
  leads_kept g x d (Start level) l = record {
    is_end = subst (λ s. IsEnd (wave_of g) s (record { node = x; level = level })) (sym i.split) l.is_end;
    cost =
        (let same = ap (λ s. reach_cost (wave_of g) (state_at g) s (record { node = x; level = level })) i.split in
        let least = i.least in
        let cost = l.cost in
        omega arith);
  }
  leads_kept g x d Down l = record {
    hangs = l.hangs;
    before = before_kept _ x l.before;
    room = l.room;
    cost = (let same = i.settled _ l.before.0 in let cost = l.cost in omega arith);
  }
  leads_kept g x d (Up c) l = record {
    known = l.known;
    hangs = l.hangs;
    above = l.above;
    before = before_kept c x l.before;
    some = l.some;
    cost = (let same = i.settled c l.before.0 in let cost = l.cost in omega arith);
  }
  leads_kept g x d (Over t level) l = record {
    from = l.from;
    stands = l.stands;
    is_end = l.is_end;
    before = before_kept l.from.node x l.before;
    cost = (let same = i.settled l.from.node l.before.0 in let cost = l.cost in omega arith);
  }

  pub ends_kept : (g : Ground) (bound : ℕ) (goal : Goal) → EndsIn g old bound goal → EndsIn g new bound goal
  ends_kept g bound Wait e = e ∙ sym i.limit
  ends_kept g bound (Slot v) e = record {
    known = e.known;
    rest = e.rest;
    slots = e.slots;
    reached = (let less = i.far v in let limit = i.limit in let near = e.reached in omega arith);
    near = (let less = i.far v in let near = e.near in omega arith);
  }
  ends_kept g bound (Off t) e = record {
    from = e.from;
    stands = e.stands;
    reached =
        (let same = i.settled e.from.node e.settled in let limit = i.limit in let near = e.reached in omega arith);
    settled = some_kept e.from.node e.settled;
    near = (let same = i.settled e.from.node e.settled in let near = e.near in omega arith);
  }

module _ (old new : Search) (i : IsNearer old new) where
  pub down_kept : (g : Ground) (c v : TreeNode) → 0 < order_at old c → IsDown g old c v → IsDown g new c v
  down_kept g c v some down = λ is room.
      (let before = down is room in
      let same = i.settled c some in
      let bound = i.bound in
      let far = i.far v in
      omega arith)

  pub over_kept : (g : Ground) (c : TreeNode) (t : ℕ) → 0 < order_at old c → GoesAllOver g old c t
      → GoesAllOver g new c t
  over_kept g c t some all = record {
    over = λ e x stands is is_end.
        (let before = all.over e x stands is is_end in
        let settled : 0 < order_at old e.node = subst (λ v. 0 < order_at old v) (sym is) some in
        let same = i.settled e.node settled in
        let bound = i.bound in
        let far = i.far x.node in
        omega arith);
    out = λ e stands is.
        (let before = all.out e stands is in
        let settled : 0 < order_at old e.node = subst (λ v. 0 < order_at old v) (sym is) some in
        let same = i.settled e.node settled in
        let bound = i.bound in
        omega arith);
  }

  pub looked_kept : (g : Ground) (u : TreeNode) → 0 < order_at old u → HasLookedFrom g old u → HasLookedFrom g new u
  looked_kept g u some looked = record {
    down = λ v is room.
        (let before = looked.down v is room in
        let same = i.settled u some in let bound = i.bound in let far = i.far v in omega arith);
    up = λ flows.
        (let before = looked.up flows in
        let same = i.settled u some in let bound = i.bound in let far = i.far (parent (wave_of g).tree u) in omega arith);
    over = λ s e x stands is is_end.
        (let before = looked.over s e x stands is is_end in
        let same = i.settled u some in let bound = i.bound in let far = i.far x.node in omega arith);
    out = λ s e stands is.
        (let before = looked.out s e stands is in
        let same = i.settled u some in let bound = i.bound in omega arith);
    bottom = λ w known is free.
        (let before = looked.bottom w known is free in
        let same = i.settled u some in let bound = i.bound in omega arith);
  }

  pub start_kept : (g : Ground) (x : End) → IsStartedAt g old x → IsStartedAt g new x
  start_kept g x before =
      (let same = ap (λ s. reach_cost (wave_of g) (state_at g) s x) i.split in
      let least = i.least in
      let bound = i.bound in
      let far = i.far x.node in
      omega arith)

  -- a cover holds on
  pub cover_kept : (g : Ground) (cover : Cover) (u : TreeNode) → IsCovered g old cover u → IsCovered g new cover u
  cover_kept g cover u c = record {
    known = c.known;
    near = λ v left.
        (let before = c.near v left in let bound = i.bound in let far = i.far v in omega arith);
  }

  pub started_kept : (g : Ground) → HasStarted g old → HasStarted g new
  started_kept g started = λ x is.
      start_kept g x (started x (subst (λ s. IsEnd (wave_of g) s x) i.split is))

module _ (old new : Search) (i : Improves old new) where
  pub some_same : (u : TreeNode) → 0 < order_at old u → 0 < order_at new u
  some_same u some = (let one = same_order old new i u in omega arith)

  pub at_kept : (c : TreeNode) → IsAt old c → IsAt new c
  at_kept c at = record {
    settled = (let one = same_order old new i c in let some = at.settled in omega arith);
    reached =
        (let same = i.nearer.settled c at.settled in let limit = i.nearer.limit in let near = at.reached in omega arith);
    last = λ u some.
        (let order = same_order old new i u in
        let before : 0 < order_at old u = omega arith in
        let one = i.nearer.settled u before in
        let two = i.nearer.settled c at.settled in
        let last = at.last u before in
        omega arith);
  }

nearer_trans : (a b c : Search) → IsNearer a b → IsNearer b c
    → ((u : TreeNode) → 0 < order_at a u → 0 < order_at b u) → IsNearer a c
nearer_trans a b c i j some = record {
  split = j.split ∙ i.split;
  least = j.least ∙ i.least;
  limit = j.limit ∙ i.limit;
  bound = (let one = i.bound in let two = j.bound in omega arith);
  far = λ v. (let one = i.far v in let two = j.far v in omega arith);
  settled = λ u come. j.settled u (some u come) ∙ i.settled u come;
}

pub improves_trans : (a b c : Search) → Improves a b → Improves b c → Improves a c
improves_trans a b c i j = record {
  nearer = nearer_trans a b c i.nearer j.nearer (some_same a b i);
  looked = j.looked ∙ i.looked;
  order = j.order ∙ i.order;
}

pub settles_then : (a b c : Search) (v : TreeNode) → Settles a b v → Improves b c → Settles a c v
settles_then a b c v s i = record {
  nearer = nearer_trans a b c s.nearer i.nearer (λ u some. elim (same_or_not u v) [
    | inl e ↦ (let a = ap (order_at b) e in let now = s.here in omega arith)
    | inr n ↦ (let same = s.others u n in omega arith)
  ]);
  looked = i.looked ∙ s.looked;
  here = same_order b c i v ∙ s.here;
  others = λ u n. same_order b c i u ∙ s.others u n;
}

-- a node that was come to nearer
module _ (old : Search) (far : NodeTable ℕ) (how : NodeTable Step) (node : TreeNode) (distance : ℕ) (step : Step)
    (bound : distance < old.bound) (near : distance < far_at old node) (short : distance < 2 ^ 60) (b : ℕ)
    (end : Goal) (less : b ≤ old.bound)
    (beyond : (u : TreeNode) → 0 < order_at old u → far_at old u ≤ distance)
    (here : (d : ℕ) → at_or far d node ≡ distance)
    (others : (d : ℕ) (v : TreeNode) → v ≢ node → at_or far d v ≡ at_or old.far d v)
    (how_here : (d : Step) → at_or how d node ≡ step)
    (how_others : (d : Step) (v : TreeNode) → v ≢ node → at_or how d v ≡ at_or old.how d v)
    (row : Reached) (noted : IsNoted old.reached row node (far_at old node) distance) where
  abbrev reached : Search
  reached = record old { far = far; how = how; reached = row; bound = b; goal = end }

  is_open : order_at old node ≡ 0
  is_open = elim (cases_lt 0 (order_at old node)) [
    | inl some ↦ absurd (let past = beyond node some in omega arith)
    | inr none ↦ omega arith
  ]

  reach_nearer : IsNearer old reached
  reach_nearer = record {
    split = refl;
    least = refl;
    limit = refl;
    bound = omega arith;
    far = λ v. elim (same_or_not v node) [
      | inl e ↦
          (let now = here (2 ^ 60) in
          let a = ap (far_at reached) e in
          let b = ap (far_at old) e in
          omega arith)
      | inr n ↦ (let same = others (2 ^ 60) v n in omega arith)
    ];
    settled = λ u some. others (2 ^ 60) u (λ e. (let none = is_open in
        let a = ap (order_at old) e in omega arith));
  }

  far_there : far_at reached node ≡ distance
  far_there = here (2 ^ 60)

  -- the row is as long as before
  row_room : length row.nodes.items ≡ length old.reached.nodes.items
  row_room = elim (cases_lt (far_at old node) (2 ^ 60)) [
    | inl before ↦ ap (λ (r : Reached). length r.nodes.items) (noted.same before)
    | inr fresh ↦
        ap length (noted.fresh fresh).nodes
        ∙ length-set old.reached.nodes.items old.reached.count node
  ]

  -- the row has the node, where it was not come to before
  row_kept : (tree : Tree) → IsNode tree node → HasReached tree old → old.bound ≤ old.limit → old.limit < 2 ^ 60
      → HasRoom old.reached node (far_at old node) → HasReached tree reached
  row_kept tree known r most short room = elim (cases_lt (far_at old node) (2 ^ 60)) [
    | inl before ↦
        (let same = noted.same before in
        let size = noted.blocks in
        let floors = row.floors in
        subst (λ row. HasReached tree (record old {
          far = far;
          how = how;
          reached = row;
          bound = b;
          goal = end;
        })) (sym same)
        (record {
          room = r.room;
          blocks = (let blocks = r.blocks in omega arith);
          known = r.known;
          near = λ k l. (let less = reach_nearer.far (reached_at old k) in let near = r.near k l in omega arith);
          once = r.once;
          placed = λ v near. elim (same_or_not v node) [
            | inl e ↦ r.placed v (let a = ap (far_at old) e in omega arith)
            | inr n ↦ r.placed v (let same = others (2 ^ 60) v n in omega arith)
          ];
          looked = λ v some. (let less = reach_nearer.far v in let near = r.looked v some in omega arith);
        }))
    | inr fresh ↦
        (let count = (noted.fresh fresh).count in
        let set = (noted.fresh fresh).nodes in
        let place = (noted.fresh fresh).place in
        let space = room.fresh fresh in
        let own : reached_at reached old.reached.count ≡ node =
        ap (λ items. get_or items old.reached.count Cluster) set
        ∙ get_or-set_same old.reached.nodes.items old.reached.count node Cluster space in
        let other : (k : ℕ) → k < old.reached.count → reached_at reached k ≡ reached_at old k =
        (λ k l. ap (λ items. get_or items k Cluster) set
        ∙ get_or-set_other old.reached.nodes.items old.reached.count k node Cluster (λ e. omega arith)) in
        record {
          room = (let size = row_room in omega arith);
          blocks = (let size = row_room in let floors = noted.blocks in let blocks = r.blocks in omega arith);
          known = λ k l. elim (cases_lt k old.reached.count) [
            | inl less ↦ subst (IsNode tree) (sym (other k less)) (r.known k less)
            | inr past ↦
                (let e : k ≡ old.reached.count = omega arith in
                subst (IsNode tree) (sym (ap (reached_at reached) e ∙ own)) known)
          ];
          near = λ k l. elim (cases_lt k old.reached.count) [
            | inl less ↦
                (let one = ap (far_at reached) (other k less) in
                let closer = reach_nearer.far (reached_at old k) in
                let near = r.near k less in
                omega arith)
            | inr past ↦
                (let e : k ≡ old.reached.count = omega arith in
                let one = ap (far_at reached) (ap (reached_at reached) e ∙ own) in
                let there = far_there in
                omega arith)
          ];
          once = λ j k l m. elim (cases_lt k old.reached.count) [
            | inl less ↦
                (λ e. r.once j k l less (sym (other j (omega arith)) ∙ e ∙ other k less))
            | inr past ↦
                (λ e.
                (let last : k ≡ old.reached.count = omega arith in
                let first : j < old.reached.count = omega arith in
                let near = r.near j first in
                let is = ap (far_at old) (sym (other j first) ∙ e ∙ ap (reached_at reached) last ∙ own) in
                omega arith))
          ];
          placed = λ v near. elim (same_or_not v node) [
            | inl e ↦
                (let here = ap (place_at reached) e in
                (omega arith, ap (reached_at reached) (here ∙ place) ∙ own ∙ sym e))
            | inr n ↦
                (let at = r.placed v (let same = others (2 ^ 60) v n in omega arith) in
                let same = noted.others v n in (
                  (let l = at.0 in omega arith),
                  ap (reached_at reached) same ∙ other (place_at old v) at.0 ∙ at.1,
                ))
          ];
          looked = λ v some. (let less = reach_nearer.far v in let near = r.looked v some in omega arith);
        })
  ]

  -- no more stand in it than nodes that were come to
  row_fit : (g : Ground) → IsGround g → IsNode (wave_of g).tree node
      → old.reached.count ≤ count_by (has_come old) g.nodes.now → row.count ≤ count_by (has_come reached) g.nodes.now
  row_fit g ground known fit = elim (cases_lt (far_at old node) (2 ^ 60)) [
    | inl before ↦
        (let same = ap (λ (r : Reached). r.count) (noted.same before) in
        let grows = count_grows (has_come old) (has_come reached) (λ v come. lt-ltb (far_at reached v) (2 ^ 60)
        (let less = reach_nearer.far v in let near = ltb-true (far_at old v) (2 ^ 60) come in omega arith))
        g.nodes.now in
        omega arith)
    | inr fresh ↦
        (let count = (noted.fresh fresh).count in
        let more = count_less (has_come reached) (has_come old) node
        (lt-ltb (far_at reached node) (2 ^ 60) (let there = far_there in omega arith))
        (le-ltb (far_at old node) (2 ^ 60) fresh)
        (λ v n. ap (λ (d : ℕ). nat_lt d (2 ^ 60)) (sym (others (2 ^ 60) v n))) g.nodes.now
        (ground.nodes.each node known) in
        omega arith)
  ]

  -- no node that was not looked from is nearer than the floor of its block
  row_floors : (tree : Tree) → HasReached tree old
      → ((v : TreeNode) → far_at old v < 2 ^ 60 → order_at old v ≡ 0
      → floor_at old (place_at old v) ≤ far_at old v)
      → (v : TreeNode) → far_at reached v < 2 ^ 60 → order_at old v ≡ 0
      → floor_at reached (place_at reached v) ≤ far_at reached v
  row_floors tree r floors v come none = elim (same_or_not v node) [
    | inl e ↦
        (let is = ap (λ v. floor_at reached (place_at reached v)) e in
        let there = far_there in
        let a = ap (far_at reached) e in
        let here = noted.here in
        omega arith)
    | inr n ↦
        (let same = others (2 ^ 60) v n in
        let before : far_at old v < 2 ^ 60 = omega arith in
        let at = (r.placed v before).0 in
        let floor = floors v before none in
        let is = ap (floor_at reached) (noted.others v n) in
        let lower = noted.lower (place_at old v / 32) (omega arith) in
        omega arith)
  ]

  -- no worker's own free slot is nearer than the bound
  bottom_there : (g : Ground) → IsSearching g old → (rest : ℕ) → IsRest g node rest → b ≤ distance + rest
      → (w : ℕ) → w < length (wave_of g).workers → 0 < (state_at g).free w
      → b + (state_at g).depth (Worker w) ≤ far_at reached (Worker w) + next_price g w
  bottom_there g s rest own most w known some = elim (same_or_not (Worker w) node) [
    | inl e ↦
        (let now = here (2 ^ 60) in
        let a = ap (far_at reached) e in
        let d = ap (state_at g).depth e in
        let near = own.own w known (sym e) some in
        omega arith)
    | inr n ↦ (let same = others (2 ^ 60) (Worker w) n in let past = s.bottom w known some in omega arith)
  ]

  pub reach_improves : Improves old reached
  reach_improves = record { nearer = reach_nearer; looked = refl; order = refl }

  pub reach_kept : (g : Ground) → IsGround g → IsNode (wave_of g).tree node → IsOver (wave_of g).tree far
      → IsOver (wave_of g).tree how → IsSearching g old
      → (order_at old node ≡ 0 → LeadsTo g old node distance step) → EndsIn g reached b end
      → (rest : ℕ) → IsRest g node rest → b ≤ distance + rest → IsSearching g reached
  reach_kept g ground known over_far over_how s leads ends rest own most = record {
    tables = record {
      far = over_far;
      how = over_how;
      order = s.tables.order;
      places = over_sized (wave_of g).tree old.reached.places row.places s.tables.places noted.size;
      covers = s.tables.covers;
    };
    reached = row_kept (wave_of g).tree known s.reached s.bound
        (let small = ground.small in let limit = s.limit in omega arith)
        (room_left g old ground s node known);
    room = row_room ∙ s.room;
    fit = row_fit g ground known s.fit;
    floors = row_floors (wave_of g).tree s.reached s.floors;
    limit = s.limit;
    bound = (let most = s.bound in omega arith);
    few = s.few;
    steps = λ v less. elim (same_or_not v node) [
      | inl e ↦ subst (λ v. LeadsTo g reached v (far_at reached v) (step_at reached v)) (sym e)
          (subst (λ d. LeadsTo g reached node d (step_at reached node)) (sym (here (2 ^ 60)))
          (subst (λ st. LeadsTo g reached node distance st) (sym (how_here Down))
          (leads_kept old reached reach_nearer (λ u x b. b) (λ u some. some) g node distance step
          (leads is_open))))
      | inr n ↦
          (let same = others (2 ^ 60) v n in
          subst (λ d. LeadsTo g reached v d (step_at reached v)) (sym same)
          (subst (λ st. LeadsTo g reached v (far_at old v) st) (sym (how_others Down v n))
          (leads_kept old reached reach_nearer (λ u x b. b) (λ u some. some) g v (far_at old v)
          (step_at old v) (s.steps v (omega arith)))))
    ];
    level = λ u v some none.
        (let one = reach_nearer.settled u some in
        elim (same_or_not v node) [
          | inl e ↦
              (let now = here (2 ^ 60) in
              let a = ap (far_at reached) e in
              let past = beyond u some in
              omega arith)
          | inr n ↦ (let same = others (2 ^ 60) v n in let level = s.level u v some none in omega arith)
        ]);
    goal = ends;
    bottom = bottom_there g s rest own most;
    covered = λ u. cover_kept old reached reach_nearer g (cover_at old u) u (s.covered u);
    low = s.low;
  }

  -- a way ends in a free slot that is so much farther
  pub ends_there : (g : Ground) → IsSearching g old → IsNode (wave_of g).tree node
      → (rest : ℕ) → IsOpenAt g node rest → b ≡ distance + rest → EndsInSlot g reached b node
  ends_there g s known rest slots is = record {
    known = known;
    reached = (let now = here (2 ^ 60) in let most = s.bound in omega arith);
    rest = rest;
    slots = slots;
    near = (let now = here (2 ^ 60) in omega arith);
  }

  pub ends_same : (g : Ground) → IsSearching g old → b ≡ old.bound → end ≡ old.goal → EndsIn g reached b end
  ends_same g s is goal = subst (λ (n : ℕ). EndsIn g reached n end) (sym is)
      (subst (λ goal. EndsIn g reached old.bound goal) (sym goal)
      (ends_kept old reached reach_nearer (λ u x b. b) (λ u some. some) g old.bound old.goal s.goal))

-- another bound with its goal, other covers, lows and floors
module _ (old : Search) (bound : ℕ) (goal : Goal) (covers : NodeTable Cover) (lows : Lows) (row : Reached)
    (less : bound ≤ old.bound) where
  abbrev pub turned : Search
  turned = record old {
    bound = bound;
    goal = goal;
    covers = covers;
    lows = lows;
    reached = record old.reached { floors = row.floors };
  }

  turned_nearer : IsNearer old turned
  turned_nearer = record {
    split = refl;
    least = refl;
    limit = refl;
    bound = less;
    far = λ v. omega arith;
    settled = λ u some. refl;
  }

  pub turned_improves : Improves old turned
  turned_improves = record { nearer = turned_nearer; looked = refl; order = refl }

  pub turned_kept : (g : Ground) → IsSearching g old → IsSized old.covers covers
      → length row.floors.items ≡ length old.reached.floors.items
      → ((v : TreeNode) → far_at old v < 2 ^ 60 → order_at old v ≡ 0
      → floor_at turned (place_at old v) ≤ far_at old v)
      → EndsIn g old bound goal → ((u : TreeNode) → IsCovered g old (at_or covers no_cover u) u)
      → AreLow (wave_of g) (state_at g) lows → IsSearching g turned
  turned_kept g s sized size floors ends covered low = record {
    tables = record {
      far = s.tables.far;
      how = s.tables.how;
      order = s.tables.order;
      places = s.tables.places;
      covers = record {
        racks = sized.racks ∙ s.tables.covers.racks;
        centres = sized.centres ∙ s.tables.covers.centres;
      };
    };
    reached = record {
      room = s.reached.room;
      blocks = (let blocks = s.reached.blocks in omega arith);
      known = s.reached.known;
      near = s.reached.near;
      once = s.reached.once;
      placed = s.reached.placed;
      looked = s.reached.looked;
    };
    room = s.room;
    fit = s.fit;
    floors = floors;
    limit = s.limit;
    bound = (let most = s.bound in omega arith);
    few = s.few;
    steps = λ v less. leads_kept old turned turned_nearer (λ u x b. b) (λ u some. some) g v (far_at old v)
        (step_at old v) (s.steps v less);
    level = s.level;
    goal = ends_kept old turned turned_nearer (λ u x b. b) (λ u some. some) g bound goal ends;
    bottom = λ w known some. (let past = s.bottom w known some in omega arith);
    covered = λ u. cover_kept old turned turned_nearer g (at_or covers no_cover u) u (covered u);
    low = low;
  }

-- an end of a way that was come to nearer
module _ (old : Search) (goal : Goal) (distance : ℕ) (bound : distance < old.bound) where
  pub arrive_kept : (g : Ground) → IsSearching g old → EndsIn g old distance goal
      → IsSearching g (record old { bound = distance; goal = goal })
  arrive_kept g s ends = turned_kept old distance goal old.covers old.lows old.reached (omega arith) g s
      (record { workers = refl; racks = refl; centres = refl }) refl s.floors ends s.covered s.low

-- a node that is looked from next
module _ (g : Ground) (old : Search) (order : NodeTable ℕ) (c : TreeNode) (s : IsSearching g old)
    (fresh : order_at old c ≡ 0) (over : IsOver (wave_of g).tree order)
    (here : at_or order 0 c ≡ old.looked + 1)
    (others : (v : TreeNode) → v ≢ c → at_or order 0 v ≡ order_at old v) where
  abbrev settled : Search
  settled = record old { order = order; looked = old.looked + 1 }

  settle_nearer : IsNearer old settled
  settle_nearer = record {
    split = refl;
    least = refl;
    limit = refl;
    bound = omega arith;
    far = λ v. omega arith;
    settled = λ u some. refl;
  }

  before_next : (u x : TreeNode) → IsBefore old u x → IsBefore settled u x
  before_next = first_next old.order order old.looked c s.few fresh here others

  some_next : (u : TreeNode) → 0 < order_at old u → 0 < order_at settled u
  some_next = some_later old.order order old.looked c s.few fresh here others

  was_open : (v : TreeNode) → order_at settled v ≡ 0 → order_at old v ≡ 0
  was_open = open_before old.order order old.looked c s.few fresh here others

  -- no node that was looked from is farther than it, and none that was not is nearer
  settled-le : (u : TreeNode) → 0 < order_at settled u → far_at old u ≤ far_at old c
  settled-le = last_next old.order order old.looked c s.few fresh here others (far_at old) s.level

  settle_steps : (v : TreeNode) → far_at old v < old.limit → LeadsTo g settled v (far_at old v) (step_at old v)
  settle_steps v less = leads_kept old settled settle_nearer before_next some_next g v (far_at old v) (step_at old v)
      (s.steps v less)

  settle_tables : HasTables (wave_of g).tree old → HasTables (wave_of g).tree settled
  settle_tables t = record { far = t.far; how = t.how; order = over; places = t.places; covers = t.covers }

  settle_reached : HasReached (wave_of g).tree old → far_at old c < old.limit → HasReached (wave_of g).tree settled
  settle_reached r reached = record {
    room = r.room;
    blocks = r.blocks;
    known = r.known;
    near = r.near;
    once = r.once;
    placed = r.placed;
    looked = λ v some. elim (same_or_not v c) [
      | inl e ↦ (let a = ap (far_at old) e in omega arith)
      | inr n ↦ r.looked v (let same = others v n in omega arith)
    ];
  }

  pub settle_kept : IsNearest g old c → IsSearching g settled
  settle_kept nearest = record {
    tables = settle_tables s.tables;
    reached = settle_reached s.reached (let near = nearest.near in let most = s.bound in omega arith);
    room = s.room;
    fit = s.fit;
    floors = λ v near none. s.floors v near (was_open v none);
    limit = s.limit;
    bound = s.bound;
    few = few_next old.order order old.looked c s.few fresh here others;
    steps = settle_steps;
    level = λ u v some none.
        (let one = settled-le u some in let two = nearest.least v (was_open v none) in omega arith);
    goal = ends_kept old settled settle_nearer before_next some_next g old.bound old.goal s.goal;
    bottom = s.bottom;
    covered = λ u. cover_kept old settled settle_nearer g (cover_at old u) u (s.covered u);
    low = s.low;
  }

  -- at the end of the search
  pub settle_found : old.goal ≡ Slot c → far_at old c < old.limit → IsFound g settled
  settle_found goal reached = record {
    tables = settle_tables s.tables;
    reached = settle_reached s.reached reached;
    room = s.room;
    limit = s.limit;
    bound = s.bound;
    steps = settle_steps;
    goal = ends_kept old settled settle_nearer before_next some_next g old.bound old.goal s.goal;
    last = subst (λ goal. IsLastOne settled goal) (sym goal) (let now = here in omega arith);
  }

  pub settle_at : IsNearest g old c → IsAt settled c
  settle_at nearest = record {
    settled = (let now = here in omega arith);
    reached = (let near = nearest.near in let most = s.bound in omega arith);
    last = settled-le;
  }

  pub settle_settles : Settles old settled c
  settle_settles = record { nearer = settle_nearer; looked = refl; here = here; others = others }

-- more is known of the nodes that hang from one node
module _ (old : Search) (covers : NodeTable Cover) (node : TreeNode) (cover : Cover)
    (here : at_or covers no_cover node ≡ cover)
    (others : (u : TreeNode) → u ≢ node → at_or covers no_cover u ≡ at_or old.covers no_cover u)
    (sized : IsSized old.covers covers) where
  pub covered_improves : Improves old (record old { covers = covers })
  covered_improves = turned_improves old old.bound old.goal covers old.lows old.reached (omega arith)

  pub covered_kept : (g : Ground) → IsSearching g old → IsCovered g old cover node
      → IsSearching g (record old { covers = covers })
  covered_kept g s covered = turned_kept old old.bound old.goal covers old.lows old.reached (omega arith) g s sized
      refl s.floors s.goal (λ u. elim (same_or_not u node) [
        | inl e ↦ subst (λ u. IsCovered g old (at_or covers no_cover u) u) (sym e)
            (subst (λ cover. IsCovered g old cover node) (sym here) covered)
        | inr n ↦ subst (λ cover. IsCovered g old cover u) (sym (others u n)) (s.covered u)
      ]) s.low
