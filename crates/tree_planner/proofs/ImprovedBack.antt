-- What stays where nodes come nearer in a search back.
use Rattle.std.proofs.Common.{◌≡◌, ℕ, ◌+◌, ◌^◌, ◌<◌, ◌≤◌, length, refl, sym, ap, ◌∙◌, subst, inl, inr, arith}
use Rattle.std.specs.Prelude.{◌≢◌, vec_capacity, Vec}
use Rattle.std.specs.declared.alloc.Global.{Global}
use Rattle.std.proofs.lemmas.Bool.{cases_lt}
use Rattle.tree_flow.specs.declared.node_table.NodeTable.{NodeTable}
use Rattle.tree_flow.specs.declared.nodes.End.{End}
use Rattle.tree_flow.specs.declared.nodes.TreeNode.{TreeNode}
use Rattle.tree_planner.specs.declared.back.Rest.{Rest}
use Rattle.tree_planner.specs.declared.back.Rest.TheVariants.{Free, Join}
use Rattle.tree_planner.specs.declared.back.Hollow.{Hollow}
use Rattle.tree_planner.specs.declared.back.SearchBack.{SearchBack}
use Rattle.tree_planner.specs.declared.back.StepBack.{StepBack}
use Rattle.tree_planner.specs.declared.back.StepBack.TheVariants.{Start, Rise, Sink, Over}
use Rattle.tree_flow.specs.Nodes.{parent, IsNode}
use Rattle.tree_planner.specs.Reaching.{IsAdded}
use Rattle.tree_planner.specs.SearchingBack.{order_at, far_at, step_at, wave_of, AreInto, EndsIn}
use Rattle.tree_planner.specs.SearchingBack.{HasLookedFrom}
use Rattle.tree_planner.specs.SearchingBack.{Improves, IsAt, IsBefore, IsDown, IsInto, IsNearer, IsNearest}
use Rattle.tree_planner.specs.SearchingBack.{IsSearching, LeadsTo}
use Rattle.tree_planner.specs.SearchingBack.{Settles}
use Rattle.tree_flow.specs.Table.{at_or, IsOver}
use Rattle.tree_flow.proofs.Moved.{same_or_not}
use Rattle.tree_planner.proofs.Ordered.{few_next, first_next, last_next, open_before, some_later}
use Rattle.tree_planner.proofs.Rowed.{row_noted, row_short}

pub improves_refl : (s : SearchBack) → Improves s s
improves_refl s = record {
  nearer = record {
    bound = omega arith;
    far = λ v. omega arith;
    settled = λ u l. refl;
  };
  looked = refl;
  order = refl;
}

-- there is room for a node that is not reached yet
pub room_left : (h : Hollow) (s : SearchBack) → IsSearching h s → (v : TreeNode) → IsNode (wave_of h).tree v
    → 2 ^ 60 ≤ far_at s v → length s.reached.items < vec_capacity s.reached
room_left h s searching v known past =
    let short = row_short (wave_of h).tree (far_at s) s.reached.items searching.reached.row v known past in
    let room = searching.tables.room in
    omega arith

pub same_order : (old new : SearchBack) → Improves old new → (v : TreeNode) → order_at new v ≡ order_at old v
same_order old new i v = ap (λ (t : NodeTable ℕ). at_or t 0 v) i.order

-- what holds of a search holds of one that came nearer, whose order goes on
module _ (old new : SearchBack) (i : IsNearer old new)
    (before_kept : (u x : TreeNode) → IsBefore old u x → IsBefore new u x)
    (some_kept : (u : TreeNode) → 0 < order_at old u → 0 < order_at new u) where
  pub leads_kept : (h : Hollow) (x : TreeNode) (d : ℕ) (step : StepBack) → LeadsTo h old x d step
      → LeadsTo h new x d step
  leads_kept h x d Start l = l
  leads_kept h x d (Rise c) l = record {
    known = l.known;
    hangs = l.hangs;
    above = l.above;
    before = before_kept c x l.before;
    room = l.room;
    cost = (let same = i.settled c l.before.0 in let cost = l.cost in omega arith);
  }
  leads_kept h x d Sink l = record {
    hangs = l.hangs;
    before = before_kept _ x l.before;
    some = l.some;
    cost = (let same = i.settled _ l.before.0 in let cost = l.cost in omega arith);
  }
  leads_kept h x d (Over t to) l = record {
    from = l.from;
    stands = l.stands;
    at = l.at;
    is_end = l.is_end;
    before = before_kept to.node x l.before;
    cost = (let same = i.settled to.node l.before.0 in let cost = l.cost in omega arith);
  }

  pub ends_kept : (h : Hollow) (bound : ℕ) (goal : Rest) → EndsIn h old bound goal → EndsIn h new bound goal
  ends_kept h bound (Free v) e = record {
    known = e.known;
    reached = (let same = i.settled v e.settled in let near = e.reached in omega arith);
    settled = some_kept v e.settled;
    near = (let same = i.settled v e.settled in let near = e.near in omega arith);
  }
  ends_kept h bound (Join t to) e = record {
    waits = e.waits;
    is_end = e.is_end;
    reached = (let same = i.settled to.node e.settled in let near = e.reached in omega arith);
    settled = some_kept to.node e.settled;
    near = (let same = i.settled to.node e.settled in let near = e.near in omega arith);
  }

module _ (old new : SearchBack) (i : IsNearer old new) where
  pub down_kept : (h : Hollow) (c v : TreeNode) → 0 < order_at old c → IsDown h old c v → IsDown h new c v
  down_kept h c v some down = λ is flows.
      (let before = down is flows in
      let same = i.settled c some in
      let bound = i.bound in
      let far = i.far v in
      omega arith)

  pub into_kept : (h : Hollow) (c : TreeNode) (t : ℕ) (x : End) → 0 < order_at old c → IsInto h old c t x
      → IsInto h new c t x
  into_kept h c t x some into = record {
    over = λ e stands is.
        (let before = into.over e stands is in
        let same = i.settled c some in
        let bound = i.bound in
        let far = i.far e.node in
        omega arith);
    waits = λ waits is.
        (let before = into.waits waits is in
        let same = i.settled c some in
        let bound = i.bound in
        omega arith);
  }

  pub all_into_kept : (h : Hollow) (c : TreeNode) (t : ℕ) → 0 < order_at old c → AreInto h old c t
      → AreInto h new c t
  all_into_kept h c t some into = λ x is. into_kept h c t x some (into x is)

  pub looked_kept : (h : Hollow) (u : TreeNode) → 0 < order_at old u → HasLookedFrom h old u
      → HasLookedFrom h new u
  looked_kept h u some looked = record {
    down = λ room.
        (let before = looked.down room in
        let same = i.settled u some in let bound = i.bound in let far = i.far (parent
        (wave_of h).tree u) in omega arith);
    up = λ v is flows.
        (let before = looked.up v is flows in
        let same = i.settled u some in let bound = i.bound in let far = i.far v in omega arith);
    over = λ s e x stands is_end is.
        (let before = looked.over s e x stands is_end is in
        let same = i.settled u some in let bound = i.bound in let far = i.far e.node in omega arith);
    waits = λ s x waits is_end is.
        (let before = looked.waits s x waits is_end is in
        let same = i.settled u some in let bound = i.bound in omega arith);
    low = (let before = looked.low in let same = i.settled u some in let bound = i.bound in omega arith);
  }

module _ (old new : SearchBack) (i : Improves old new) where
  pub some_same : (u : TreeNode) → 0 < order_at old u → 0 < order_at new u
  some_same u some = (let one = same_order old new i u in omega arith)

  pub at_kept : (c : TreeNode) → IsAt old c → IsAt new c
  at_kept c at = record {
    settled = (let one = same_order old new i c in let some = at.settled in omega arith);
    reached = (let same = i.nearer.settled c at.settled in let near = at.reached in omega arith);
    last = λ u some.
        (let order = same_order old new i u in
        let before : 0 < order_at old u = omega arith in
        let one = i.nearer.settled u before in
        let two = i.nearer.settled c at.settled in
        let last = at.last u before in
        omega arith);
  }

nearer_trans : (a b c : SearchBack) → IsNearer a b → IsNearer b c
    → ((u : TreeNode) → 0 < order_at a u → 0 < order_at b u) → IsNearer a c
nearer_trans a b c i j some = record {
  bound = (let one = i.bound in let two = j.bound in omega arith);
  far = λ v. (let one = i.far v in let two = j.far v in omega arith);
  settled = λ u come. j.settled u (some u come) ∙ i.settled u come;
}

pub improves_trans : (a b c : SearchBack) → Improves a b → Improves b c → Improves a c
improves_trans a b c i j = record {
  nearer = nearer_trans a b c i.nearer j.nearer (some_same a b i);
  looked = j.looked ∙ i.looked;
  order = j.order ∙ i.order;
}

pub settles_then : (a b c : SearchBack) (v : TreeNode) → Settles a b v → Improves b c → Settles a c v
settles_then a b c v s i = record {
  nearer = nearer_trans a b c s.nearer i.nearer (λ u some. elim (same_or_not u v) [
    | inl e ↦ (let a = ap (order_at b) e in let now = s.here in omega arith)
    | inr n ↦ (let same = s.others u n in omega arith)
  ]);
  looked = i.looked ∙ s.looked;
  here = same_order b c i v ∙ s.here;
  others = λ u n. same_order b c i u ∙ s.others u n;
}

-- a node that was come to nearer
module _ (old : SearchBack) (far : NodeTable ℕ) (how : NodeTable StepBack) (node : TreeNode)
    (distance : ℕ) (step : StepBack)
    (bound : distance < old.bound) (near : distance < far_at old node)
    (beyond : (u : TreeNode) → 0 < order_at old u → far_at old u ≤ distance)
    (here : (d : ℕ) → at_or far d node ≡ distance)
    (others : (d : ℕ) (v : TreeNode) → v ≢ node → at_or far d v ≡ at_or old.far d v)
    (how_here : (d : StepBack) → at_or how d node ≡ step)
    (how_others : (d : StepBack) (v : TreeNode) → v ≢ node → at_or how d v ≡ at_or old.how d v)
    (row : Vec TreeNode Global) (added : IsAdded old.reached.items row.items node (far_at old node))
    (room : vec_capacity row ≡ vec_capacity old.reached) where
  abbrev reached : SearchBack
  reached = record old { far = far; how = how; reached = row }

  is_open : order_at old node ≡ 0
  is_open = elim (cases_lt 0 (order_at old node)) [
    | inl some ↦ absurd (let past = beyond node some in omega arith)
    | inr none ↦ omega arith
  ]

  reach_nearer : IsNearer old reached
  reach_nearer = record {
    bound = omega arith;
    far = λ v. elim (same_or_not v node) [
      | inl e ↦
          (let now = here (2 ^ 60) in
          let a = ap (far_at reached) e in
          let b = ap (far_at old) e in
          omega arith)
      | inr n ↦ (let same = others (2 ^ 60) v n in omega arith)
    ];
    settled = λ u some. others (2 ^ 60) u (λ e. (let none = is_open in
        let a = ap (order_at old) e in omega arith));
  }

  pub reach_improves : Improves old reached
  reach_improves = record { nearer = reach_nearer; looked = refl; order = refl }

  pub reach_kept : (h : Hollow) → IsNode (wave_of h).tree node → IsOver (wave_of h).tree far
      → IsOver (wave_of h).tree how → IsSearching h old
      → (order_at old node ≡ 0 → LeadsTo h old node distance step) → IsSearching h reached
  reach_kept h known over_far over_how s leads = record {
    tables = record {
      far = over_far;
      how = over_how;
      order = s.tables.order;
      room = (let all = s.tables.room in let same = room in omega arith);
    };
    reached = record {
      row = row_noted (wave_of h).tree (far_at old) (far_at reached) node
          (let now = here (2 ^ 60) in let most = s.bound in omega arith) (others (2 ^ 60)) old.reached.items row.items s.reached.row known added;
      looked = λ v some. (let less = reach_nearer.far v in let near = s.reached.looked v some in omega arith);
    };
    bound = s.bound;
    most = λ v. (let less = reach_nearer.far v in let most = s.most v in omega arith);
    few = s.few;
    start = (let less = reach_nearer.far h.hole in let start = s.start in omega arith);
    steps = λ v less. elim (same_or_not v node) [
      | inl e ↦ subst (λ v. LeadsTo h reached v (far_at reached v) (step_at reached v)) (sym e)
          (subst (λ d. LeadsTo h reached node d (step_at reached node)) (sym (here (2 ^ 60)))
          (subst (λ st. LeadsTo h reached node distance st) (sym (how_here Start))
          (leads_kept old reached reach_nearer (λ u x b. b) (λ u some. some) h node distance step
          (leads is_open))))
      | inr n ↦
          (let same = others (2 ^ 60) v n in
          subst (λ d. LeadsTo h reached v d (step_at reached v)) (sym same)
          (subst (λ st. LeadsTo h reached v (far_at old v) st) (sym (how_others Start v n))
          (leads_kept old reached reach_nearer (λ u x b. b) (λ u some. some) h v (far_at old v)
          (step_at old v) (s.steps v (omega arith)))))
    ];
    level = λ u v some none.
        (let one = reach_nearer.settled u some in
        elim (same_or_not v node) [
          | inl e ↦
              (let now = here (2 ^ 60) in
              let a = ap (far_at reached) e in
              let past = beyond u some in
              omega arith)
          | inr n ↦ (let same = others (2 ^ 60) v n in let level = s.level u v some none in omega arith)
        ]);
    goal = λ less. ends_kept old reached reach_nearer (λ u x b. b) (λ u some. some) h old.bound old.goal
        (s.goal less);
  }

-- an end of a way that was come to nearer
module _ (old : SearchBack) (goal : Rest) (distance : ℕ) (bound : distance < old.bound) where
  abbrev arrived : SearchBack
  arrived = record old { bound = distance; goal = goal }

  arrive_nearer : IsNearer old arrived
  arrive_nearer = record {
    bound = omega arith;
    far = λ v. omega arith;
    settled = λ u some. refl;
  }

  pub arrive_improves : Improves old arrived
  arrive_improves = record { nearer = arrive_nearer; looked = refl; order = refl }

  pub arrive_kept : (h : Hollow) → IsSearching h old → EndsIn h old distance goal → IsSearching h arrived
  arrive_kept h s ends = record {
    tables = record { far = s.tables.far; how = s.tables.how; order = s.tables.order; room = s.tables.room };
    reached = record { row = s.reached.row; looked = s.reached.looked };
    bound = (let most = s.bound in omega arith);
    most = s.most;
    few = s.few;
    start = s.start;
    steps = λ v less. leads_kept old arrived arrive_nearer (λ u x b. b) (λ u some. some) h v
        (far_at old v) (step_at old v) (s.steps v less);
    level = s.level;
    goal = λ less. ends_kept old arrived arrive_nearer (λ u x b. b) (λ u some. some) h distance goal ends;
  }

-- a node that is looked from next
module _ (h : Hollow) (old : SearchBack) (order : NodeTable ℕ) (c : TreeNode) (s : IsSearching h old)
    (nearest : IsNearest h old c) (over : IsOver (wave_of h).tree order)
    (here : at_or order 0 c ≡ old.looked + 1)
    (others : (v : TreeNode) → v ≢ c → at_or order 0 v ≡ order_at old v) where
  abbrev settled : SearchBack
  settled = record old { order = order; looked = old.looked + 1 }

  settle_nearer : IsNearer old settled
  settle_nearer = record {
    bound = omega arith;
    far = λ v. omega arith;
    settled = λ u some. refl;
  }

  before_next : (u x : TreeNode) → IsBefore old u x → IsBefore settled u x
  before_next = first_next old.order order old.looked c s.few nearest.fresh here others

  some_next : (u : TreeNode) → 0 < order_at old u → 0 < order_at settled u
  some_next = some_later old.order order old.looked c s.few nearest.fresh here others

  was_open : (v : TreeNode) → order_at settled v ≡ 0 → order_at old v ≡ 0
  was_open = open_before old.order order old.looked c s.few nearest.fresh here others

  -- no node that was looked from is farther than it, and none that was not is nearer
  settled-le : (u : TreeNode) → 0 < order_at settled u → far_at old u ≤ far_at old c
  settled-le = last_next old.order order old.looked c s.few nearest.fresh here others (far_at old) s.level

  pub settle_kept : IsSearching h settled
  settle_kept = record {
    tables = record { far = s.tables.far; how = s.tables.how; order = over; room = s.tables.room };
    reached = record {
      row = s.reached.row;
      looked = λ v some. elim (same_or_not v c) [
        | inl e ↦
            (let a = ap (far_at old) e in
            let near = nearest.near in
            let most = s.bound in
            omega arith)
        | inr n ↦ (let same = others v n in s.reached.looked v (omega arith))
      ];
    };
    bound = s.bound;
    most = s.most;
    few = few_next old.order order old.looked c s.few nearest.fresh here others;
    start = s.start;
    steps = λ v less. leads_kept old settled settle_nearer before_next some_next h v (far_at old v)
        (step_at old v)
        (s.steps v less);
    level = λ u v some none.
        (let one = settled-le u some in let two = nearest.least v (was_open v none) in omega arith);
    goal = λ less. ends_kept old settled settle_nearer before_next some_next h old.bound old.goal
        (s.goal less);
  }

  pub settle_at : IsAt settled c
  settle_at = record {
    settled = (let now = here in omega arith);
    reached = (let near = nearest.near in let most = s.bound in omega arith);
    last = settled-le;
  }

  pub settle_settles : Settles old settled c
  settle_settles = record { nearer = settle_nearer; looked = refl; here = here; others = others }
