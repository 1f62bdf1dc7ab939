-- Starts of one split more.
use Rattle.std.proofs.Common.{zero, suc, ◌-◌}
use Rattle.std.proofs.Common.{◌≡◌, ℕ, ◌+◌, ◌<◌, ◌≤◌, cond, List, [], ◌∷◌, ◌++◌, length, Option, Some, None}
use Rattle.std.proofs.Common.{refl, sym, ap, ◌∙◌, subst, inl, inr, arith, length-append, get_or-set_same, get_or-set_other}
use Rattle.std.specs.Prelude.{◌==◌, ◌≢◌, slice_index, slice_index_or, IfSome}
use Rattle.std.proofs.lemmas.Bool.{cases_eq, cases_lt}
use Rattle.std.proofs.lemmas.List.{get_or_append_left, get_or_default, get_or_past, get_or_push}
use Rattle.std.proofs.lemmas.List.Sums.{sum_by-cons}
use Rattle.wave_problem.specs.Wave.{Wave}
use Rattle.wave_problem.specs.Assignment.{load, pairs_from, pairs_of, start_of}
use Rattle.tree_flow.specs.declared.node_table.NodeTable.{NodeTable}
use Rattle.tree_flow.specs.declared.nodes.End.{End}
use Rattle.tree_flow.specs.declared.nodes.Place.{Place}
use Rattle.tree_flow.specs.declared.nodes.Place.TheVariants.{Stands, Unshipped, Waits}
use Rattle.tree_flow.specs.declared.nodes.TreeNode.{TreeNode}
use Rattle.tree_planner.specs.Handing.{landed, AreHandedDown, AreStanding, HasStand, HasUnitAt, IsHandedTo, IsUnitAt}
use Rattle.tree_flow.specs.Nodes.{IsKnown}
use Rattle.tree_flow.specs.Settled.{HasComeDown, IsHandedDown}
use Rattle.tree_flow.specs.State.{State, place_of, IsBalancedBut, IsKept}
use Rattle.tree_flow.specs.Table.{at_node}
use Rattle.tree_flow.proofs.Children.{followed_down}
use Rattle.tree_flow.proofs.Under.{stands_known}
use Rattle.tree_planner.proofs.Paired.{pairs_push_none, pairs_push_some}

-- what one start loads on a worker
abbrev pub load_of : Option ℕ → ℕ → ℕ
load_of None x = 0
load_of (Some w) x = cond (w == x) 1 0

load_from : (n x : ℕ) (starts : List (Option ℕ)) (o : Option ℕ)
    → load (pairs_from n (starts ++ o ∷ [])) x ≡ load (pairs_from n starts) x + load_of o x
load_from n x [] None = refl
load_from n x [] (Some w) =
    let a = sum_by-cons (λ (pair : ℕ × ℕ). cond {A = ℕ} (pair.1 == x) 1 0) (n, w) [] in omega arith
load_from n x (None ∷ rest) o = load_from (n + 1) x rest o
load_from n x (Some w ∷ rest) o =
    let a = sum_by-cons (λ (pair : ℕ × ℕ). cond {A = ℕ} (pair.1 == x) 1 0) (n, w) (pairs_from (n + 1) (rest ++ o ∷ [])) in
    let b = sum_by-cons (λ (pair : ℕ × ℕ). cond {A = ℕ} (pair.1 == x) 1 0) (n, w) (pairs_from (n + 1) rest) in
    let c = load_from (n + 1) x rest o in
    omega arith

pub load-push : (x : ℕ) (starts : List (Option ℕ)) (o : Option ℕ)
    → load (pairs_of (starts ++ o ∷ [])) x ≡ load (pairs_of starts) x + load_of o x
load-push x starts o = load_from 0 x starts o

push_size : (starts : List (Option ℕ)) (o : Option ℕ) → length (starts ++ o ∷ []) ≡ length starts + 1
push_size starts o = length-append starts (o ∷ [])

-- the starts before are as they were, and the last is the new one
module _ (starts : List (Option ℕ)) (o : Option ℕ) where
  start_before : (s : ℕ) → s < length starts → start_of (starts ++ o ∷ []) s ≡ start_of starts s
  start_before s l = get_or_append_left starts (o ∷ []) None s l

  start_last : start_of (starts ++ o ∷ []) (length starts) ≡ o
  start_last = get_or_push starts o None (length starts) refl

  -- a start is one of those before, or the last
  start_cases : (P : ℕ → ℕ → Type 0) → ((s w : ℕ) → start_of starts s ≡ Some w → P s w)
      → ((w : ℕ) → o ≡ Some w → P (length starts) w) → (s w : ℕ) → start_of (starts ++ o ∷ []) s ≡ Some w → P s w
  start_cases P before last s w is = elim (cases_lt s (length starts)) [
    | inl l ↦ before s w (sym (start_before s l) ∙ is)
    | inr past ↦ elim (cases_eq s (length starts)) [
      | inl e ↦ subst (λ s. P s w) (sym e) (last w (sym start_last
          ∙ ap (λ s. start_of (starts ++ o ∷ []) s) (sym e) ∙ is))
      | inr n ↦ absurd
          (let size = push_size starts o in
          let none = get_or_past (starts ++ o ∷ []) s None (omega arith) in
          cc)
    ]
  ]

  none_cases : (P : ℕ → Type 0) → ((s : ℕ) → s < length starts → start_of starts s ≡ None → P s)
      → (o ≡ None → P (length starts)) → (s : ℕ) → s < length (starts ++ o ∷ [])
      → start_of (starts ++ o ∷ []) s ≡ None → P s
  none_cases P before last s m is = elim (cases_lt s (length starts)) [
    | inl l ↦ before s l (sym (start_before s l) ∙ is)
    | inr past ↦
        (let size = push_size starts o in
        let e : s ≡ length starts = omega arith in
        subst P (sym e) (last (sym start_last ∙ ap (λ s. start_of (starts ++ o ∷ []) s) (sym e) ∙ is)))
  ]

module _ (wave : Wave) (state : State) (left : NodeTable ℕ) (starts : List (Option ℕ))
    (h : IsHandedTo wave state left starts) where
  -- a split that waits
  hand_none : place_of state (length starts) ≡ Waits → IsHandedTo wave state left (starts ++ None ∷ [])
  hand_none waits = record {
    now = h.now;
    flow = h.flow;
    balanced = h.balanced;
    gone = λ s e l stands.
        (let size = push_size starts None in
        elim (cases_lt s (length starts)) [
          | inl before ↦ h.gone s e before stands
          | inr past ↦
              (let is : s ≡ length starts = omega arith in
              let a = h.later s past in
              let b = ap (λ s. place_of state s) is in
              cc)
        ]);
    later = λ s l. h.later s (let size = push_size starts None in omega arith);
    fell = h.fell;
    free = λ w. (let free = h.free w in let more = load-push w starts None in omega arith);
    started = start_cases starts None _ h.started (λ w e. absurd (let none = e in cc));
    waiting = none_cases starts None (λ s. place_of state s ≡ Waits) h.waiting (λ e. waits);
  }

  -- a split whose unit has landed
  hand_some : (new : NodeTable ℕ) (w : ℕ) (e : End) → place_of h.now (length starts) ≡ Stands e
      → length starts < length h.now.places → w < length wave.workers
      → IsBalancedBut wave (landed h.now (length starts) w new) None
      → ((v : TreeNode) → at_node new v ≤ at_node left v) → HasComeDown wave.tree state e.node w
      → IsHandedTo wave state new (starts ++ Some w ∷ [])
  hand_some new w e stands known worker balanced fell down = record {
    now = landed h.now (length starts) w new;
    flow = λ v. refl;
    balanced = balanced;
    gone = λ s x l stands_there.
        (let size = push_size starts (Some w) in
        elim (cases_lt s (length starts)) [
          | inl before ↦ h.gone s x before
              (sym (get_or-set_other h.now.places (length starts) s Unshipped Waits (λ e. omega arith)) ∙ stands_there)
          | inr past ↦
              (let is : s ≡ length starts = omega arith in
              let a = get_or-set_same h.now.places (length starts) Unshipped Waits known in
              let b = ap (λ s. place_of (landed h.now (length starts) w new) s) is in
              cc)
        ]);
    later = λ s l.
        (let size = push_size starts (Some w) in
        get_or-set_other h.now.places (length starts) s Unshipped Waits (λ e. omega arith)
        ∙ h.later s (omega arith));
    fell = λ v. (let a = fell v in let b = h.fell v in omega arith);
    free = λ x. (let free = h.free x in let more = load-push x starts (Some w) in omega arith);
    started = start_cases starts (Some w) _ h.started (λ x is.
        (let same : w ≡ x = grind arith in
        subst (λ x. (x < length wave.workers) × ((e : End) × (place_of state (length starts) ≡ Stands e)
        × HasComeDown wave.tree state e.node x)) same
        (worker, (e, sym (h.later (length starts) (omega arith)) ∙ stands, down))));
    waiting = none_cases starts (Some w) (λ s. place_of state s ≡ Waits) h.waiting (λ is. absurd (let none = is in cc));
  }

-- at first no split has its start
hand_first : (wave : Wave) (state : State) (left : NodeTable ℕ) → IsKept wave state
    → ((v : TreeNode) → at_node left v ≡ state.flow v) → IsHandedTo wave state left []
hand_first wave state left kept same = record {
  now = state;
  flow = λ v. sym (same v);
  balanced = kept.balanced;
  gone = λ s e l stands. absurd (omega arith);
  later = λ s l. refl;
  fell = λ v. (let is = same v in omega arith);
  free = λ w. omega arith;
  started = λ s w is. absurd (let none = is in cc);
  waiting = λ s l is. absurd (omega arith);
}

-- when all have theirs, all have come down
hand_last : (wave : Wave) (state : State) (left : NodeTable ℕ) (starts : List (Option ℕ)) → IsKnown wave
    → IsKept wave state → IsHandedTo wave state left starts → length starts ≡ length wave.splits
    → IsHandedDown wave state starts
hand_last wave state left starts known kept h all = followed_down wave state h.now starts known kept.balanced (record {
  size = all;
  known = λ s w is. (h.started s w is).0;
  spent = λ s e stands. elim (cases_lt s (length starts)) [
    | inl l ↦ h.gone s e l stands
    | inr past ↦
        (let l = stands_known state s e (sym (h.later s past) ∙ stands) in
        let size = kept.balanced.size in
        absurd (omega arith))
  ];
  balanced = h.balanced;
  free = h.free;
  started = λ s w is. (h.started s w is).1;
  waiting = λ s is. elim (cases_lt s (length starts)) [
    | inl l ↦ h.waiting s l is
    | inr past ↦ get_or_past state.places s Waits (let size = kept.balanced.size in omega arith)
  ];
})

-- a split that neither stands nor is not shipped waits
waits_else : (p : Place) → ((e : End) → p ≡ Stands e → ⊥) → (p ≡ Unshipped → ⊥) → p ≡ Waits
waits_else (Stands e) off other = absurd (off e refl)
waits_else Waits off other = refl
waits_else Unshipped off other = absurd (other refl)

-- splits that wait have no starts
module _ (wave : Wave) (state : State) (left : NodeTable ℕ) where
  record HaveWaited (starts : List (Option ℕ)) (n : ℕ) : Type 0 where
    pub more : List (Option ℕ)
    pub size : length more ≡ length starts + n
    pub pairs : pairs_of more ≡ pairs_of starts
    pub handed : IsHandedTo wave state left more

  wait_on : (n : ℕ) (starts : List (Option ℕ)) → IsHandedTo wave state left starts
      → ((s : ℕ) → length starts ≤ s → s < length starts + n → place_of state s ≡ Waits) → HaveWaited starts n
  wait_on zero starts h waits = record { more = starts; size = omega arith; pairs = refl; handed = h }
  wait_on (suc n) starts h waits =
      let size = push_size starts None in
      let on = wait_on n (starts ++ None ∷ []) (hand_none wave state left starts h
      (waits (length starts) (omega arith) (omega arith))) (λ s l m. waits s (omega arith) (omega arith)) in
      let more = on.size in
      let grown = on.size in
      record { more = on.more; size = omega arith; pairs = on.pairs ∙ pairs_push_none starts; handed = on.handed }

-- the first k of the splits that stand have their starts, these pairs
pub record AreFirstHanded (wave : Wave) (state : State) (left : NodeTable ℕ) (splits : List ℕ) (k : ℕ)
    (pairs : List (ℕ × ℕ)) : Type 0 where
  pub starts : List (Option ℕ)
  pub fits : length starts ≤ length wave.splits
  pub handed : IsHandedTo wave state left starts
  pub made : pairs_of starts ≡ pairs
  pub past : (j : ℕ) → k ≤ j → j < length splits → length starts ≤ slice_index splits j
  pub rest : (s : ℕ) → length starts ≤ s → HasStand state s
      → (j : ℕ) × (k ≤ j) × (j < length splits) × (slice_index splits j ≡ s)

pub first_handed : (wave : Wave) (state : State) (left : NodeTable ℕ) (splits : List ℕ) → IsKept wave state
    → ((v : TreeNode) → at_node left v ≡ state.flow v) → AreStanding state splits
    → AreFirstHanded wave state left splits 0 []
first_handed wave state left splits kept same all = record {
  starts = [];
  fits = omega arith;
  handed = hand_first wave state left kept same;
  made = refl;
  past = λ j l m. omega arith;
  rest = λ s l stands. (let found = all.all s stands in
      (found.0, omega arith, found.1, get_or_default splits found.0 0 s found.1 ∙ found.2));
}

module _ (wave : Wave) (state : State) (left : NodeTable ℕ) (splits : List ℕ) (k : ℕ) (pairs : List (ℕ × ℕ))
    (kept : IsKept wave state)
    (shipped : (s : ℕ) → s < length wave.splits → place_of state s ≢ Unshipped)
    (all : AreStanding state splits) (h : AreFirstHanded wave state left splits k pairs) where
  -- the splits between one that stands and the next one wait
  wait_to : (m : ℕ) → length h.starts ≤ m → m ≤ length wave.splits
      → ((j : ℕ) → k ≤ j → j < length splits → m ≤ slice_index splits j)
      → HaveWaited wave state left h.starts (m - length h.starts)
  wait_to m from to first = wait_on wave state left (m - length h.starts) h.starts h.handed
      (λ s l below. waits_else (place_of state s)
      (λ e stands. (let found = h.rest s l (e, stands) in
      let late = first found.0 found.1 found.2 in
      let at = found.3 in
      omega arith))
      (shipped s (omega arith)))

  module _ (within : k < length splits) where
    abbrev next : ℕ
    next = slice_index splits k

    next_stands : HasStand state next
    next_stands = all.each k 0 within

    next_known : next < length wave.splits
    next_known = (let l = stands_known state next next_stands.0 next_stands.1 in let size = kept.balanced.size in omega arith)

    -- a later split comes after it
    later : (j : ℕ) → k + 1 ≤ j → j < length splits → next + 1 ≤ slice_index splits j
    later j l m = (let rise = all.rise k j 0 (omega arith) m in omega arith)

    up_to : HaveWaited wave state left h.starts (next - length h.starts)
    up_to = wait_to next (h.past k (omega arith) within) (let l = next_known in omega arith)
        (λ j l m. elim (cases_eq j k) [
          | inl e ↦ (let same = ap (λ (j : ℕ). slice_index splits j) e in omega arith)
          | inr n ↦ (let after = later j (omega arith) m in omega arith)
        ])

    up_to_next : length up_to.more ≡ next
    up_to_next = (let size = up_to.size in let past = h.past k (omega arith) within in omega arith)

    -- its unit can go down
    unit_of_next : (e : End) → place_of state next ≡ Stands e → IsUnitAt wave left e.node up_to.handed.now next e
    unit_of_next e stands = record {
      flow = up_to.handed.flow;
      balanced = up_to.handed.balanced;
      known = (let l = next_known in let size = up_to.handed.balanced.size in omega arith);
      stands = up_to.handed.later next (let is = up_to_next in omega arith) ∙ stands;
      at = refl;
    }

    pub next_has_unit : (s : ℕ) (e : End) → s ≡ next → place_of state s ≡ Stands e → HasUnitAt wave left e.node
    next_has_unit s e is stands =
        (up_to.handed.now, next, e, unit_of_next e (ap (λ (s : ℕ). place_of state s) (sym is) ∙ stands))

    -- when it has landed, one more is handed
    next_handed : (new : NodeTable ℕ) (w : ℕ) (e : End) → place_of state next ≡ Stands e
        → w < length wave.workers
        → IsBalancedBut wave (landed up_to.handed.now next w new) None
        → ((v : TreeNode) → at_node new v ≤ at_node left v) → HasComeDown wave.tree state e.node w
        → AreFirstHanded wave state new splits (k + 1) (pairs ++ (next, w) ∷ [])
    next_handed new w e stands worker balanced fell down =
        let more = up_to.more in
        let is = up_to_next in
        let unit = unit_of_next e stands in
        let size = push_size more (Some w) in
        let known = next_known in
        record {
          starts = more ++ Some w ∷ [];
          fits = omega arith;
          handed = hand_some wave state left more up_to.handed new w e
              (ap (λ (s : ℕ). place_of up_to.handed.now s) is ∙ unit.stands)
              (let l = unit.known in omega arith) worker
              (subst (λ (s : ℕ). IsBalancedBut wave (landed up_to.handed.now s w new) None) (sym is) balanced)
              fell down;
          made = pairs_push_some more next w (sym is)
              ∙ ap (λ (ps : List (ℕ × ℕ)). ps ++ (next, w) ∷ []) (up_to.pairs ∙ h.made);
          past = λ j l m. (let after = later j l m in omega arith);
          rest = λ s l there. (let found = h.rest s (let past = h.past k (omega arith) within in omega arith) there in
              let at = found.3 in
              elim (cases_eq found.0 k) [
                | inl e ↦ absurd (let same = ap (λ (j : ℕ). slice_index splits j) e in omega arith)
                | inr n ↦ (found.0, (let l = found.1 in omega arith), found.2, found.3)
              ]);
        }

    -- so it is with what is known of the way down
    pub one_handed : (new : NodeTable ℕ) (s w : ℕ) (e : End) → s ≡ next → place_of state s ≡ Stands e
        → w < length wave.workers
        → ((now : State) (s : ℕ) (x : End) → IsUnitAt wave left e.node now s x
        → IsBalancedBut wave (landed now s w new) None)
        → ((v : TreeNode) → at_node new v ≤ at_node left v)
        → ((old : State) → ((v : TreeNode) → at_node left v ≤ old.flow v) → HasComeDown wave.tree old e.node w)
        → AreFirstHanded wave state new splits (k + 1) (pairs ++ (s, w) ∷ [])
    one_handed new s w e is stands worker lands fell down =
        let there = ap (λ (s : ℕ). place_of state s) (sym is) ∙ stands in
        subst (λ (s : ℕ). AreFirstHanded wave state new splits (k + 1) (pairs ++ (s, w) ∷ [])) (sym is)
        (next_handed new w e there worker (lands up_to.handed.now next e (unit_of_next e there)) fell
        (down state up_to.handed.fell))

  -- when all are, they are handed down
  pub all_handed : IsKnown wave → length splits ≤ k → AreHandedDown wave state pairs
  all_handed known past =
      let on = wait_to (length wave.splits) h.fits (omega arith) (λ j l m. absurd (omega arith)) in
      let size : length on.more ≡ length wave.splits =
      (let more = on.size in let fits = h.fits in omega arith) in
      record {
        planned = record {
          starts = on.more;
          made = on.pairs ∙ h.made;
          size = size;
          known = λ s d l. if_some (slice_index_or on.more s d) (λ w is.
              (on.handed.started s w (sym (get_or_default on.more s d None l) ∙ is)).0);
        };
        down = hand_last wave state left on.more known kept on.handed size;
      }
    where
      if_some : (o : Option ℕ) → ((w : ℕ) → o ≡ Some w → w < length wave.workers)
          → IfSome o (λ w. w < length wave.workers)
      if_some None f = tt
      if_some (Some w) f = f w refl
