-- The ends of a split are what its admissible starts need, at no more than their costs.
use Rattle.std.proofs.Common.{◌≡◌, ℕ, zero, suc, ◌*◌, ◌<◌, ◌≤◌, true, length, refl, sym, ap, ◌∙◌}
use Rattle.std.proofs.Common.{subst, inl, inr, ◌⊎◌, arith, unwrap_or}
use Rattle.std.specs.Prelude.{slice_index}
use Rattle.std.proofs.lemmas.Bool.{cases_Bool, cases_eq, cases_lt, eq-eqb, false≢true}
use borrow.Author.Tests.{eqb-true}
use Rattle.node_ids.specs.Sets.{has_pair, HasPair}
use Rattle.rack_tree.specs.Tree.{Tree, centre_at, reach, IsWithinReach}
use Rattle.wave_problem.specs.Wave.{Wave, IsAdmissible, IsUsable, cost}
use Rattle.wave_problem.proofs.Bound.{live_known}
use Rattle.tree_flow.proofs.Costs.{holder_held, Meet, cost-le, cost_is, nearest}
use Rattle.tree_flow.specs.declared.nodes.TreeNode.{TreeNode}
use Rattle.tree_flow.specs.declared.nodes.TreeNode.TheVariants.{Worker, Rack, Centre, Cluster}
use Rattle.tree_flow.specs.declared.nodes.End.{End}
use Rattle.tree_flow.specs.Nodes.{parent, is_under, node_above, HasBarUnder, IsEnd, end_cost, IsKnown, IsNode}

-- what is under a node is under those above it
pub under_under : (tree : Tree) (w : ℕ) (b c : TreeNode) → is_under tree (Worker w) b ≡ true
    → is_under tree b c ≡ true → is_under tree (Worker w) c ≡ true
under_under tree w (Worker v) (Worker x) h k = grind (arith, eqb-true)
under_under tree w (Worker v) (Rack r) h k = grind (arith, eqb-true)
under_under tree w (Worker v) (Centre c) h k = grind (arith, eqb-true)
under_under tree w (Rack q) (Worker x) h k = absurd (false≢true k)
under_under tree w (Rack q) (Rack r) h k = grind (arith, eqb-true)
under_under tree w (Rack q) (Centre c) h k = grind (arith, eqb-true)
under_under tree w (Centre d) (Worker x) h k = absurd (false≢true k)
under_under tree w (Centre d) (Rack r) h k = absurd (false≢true k)
under_under tree w (Centre d) (Centre c) h k = grind (arith, eqb-true)
under_under tree w Cluster (Worker x) h k = absurd (false≢true k)
under_under tree w Cluster (Rack r) h k = absurd (false≢true k)
under_under tree w Cluster (Centre c) h k = absurd (false≢true k)
under_under tree w b Cluster h k = refl

-- a worker under the node above another meets it there
pub meets : (tree : Tree) (level h w : ℕ) → level < 4 → is_under tree (Worker w) (node_above tree level h) ≡ true
    → Meet tree level h w
meets tree zero h w l u = eqb-true h w u
meets tree (suc zero) h w l u = eqb-true _ _ u
meets tree (suc (suc zero)) h w l u = eqb-true _ _ u
meets tree (suc (suc (suc level))) h w l u = tt

pub own_above : (tree : Tree) (level w : ℕ) → is_under tree (Worker w) (node_above tree level w) ≡ true
own_above tree zero w = eq-eqb w w refl
own_above tree (suc zero) w = eq-eqb (slice_index tree.rack_of w) (slice_index tree.rack_of w) refl
own_above tree (suc (suc zero)) w = eq-eqb (centre_at tree w) (centre_at tree w) refl
own_above tree (suc (suc (suc level))) w = refl

pub reach_few : (tree : Tree) (level : ℕ) → 2 * level ≤ reach tree → level < 4
reach_few tree level l = grind arith

-- an end costs no less than a start on a worker under it, which is admissible
pub end_sound : (wave : Wave) (s w : ℕ) (e : End) → IsEnd wave s e → IsUsable wave.workers w
    → is_under wave.tree (Worker w) e.node ≡ true
    → IsAdmissible wave s w × (unwrap_or (cost wave s w) 0 ≤ end_cost wave s e)
end_sound wave s w e end usable under =
    let meet = meets wave.tree e.level end.holder w (reach_few wave.tree e.level end.level)
    (under_under wave.tree w e.node (node_above wave.tree e.level end.holder) under end.near) in (
      record {
        pending = end.pending;
        held = holder_held wave s end.holder end.held;
        live = usable.0;
        has_slot = usable.1;
        not_barred = λ b. end.no_bar (w, live_known wave w usable.0, under, b);
      },
      cost-le wave s w end.holder e.level end.held meet,
    )

-- whether a worker under the node is barred
bar_below : (wave : Wave) (s : ℕ) (v : TreeNode) (n : ℕ) → n ≤ length wave.workers → HasBarUnder wave s v
    ⊎ ((w : ℕ) → w < n → is_under wave.tree (Worker w) v ≡ true → HasPair wave.barred s w → ⊥)
bar_below wave s v zero l = inr (λ w m u b. absurd (omega arith))
bar_below wave s v (suc n) l = elim (bar_below wave s v n (omega arith)) [
  | inl b ↦ inl b
  | inr none ↦ elim (cases_Bool (is_under wave.tree (Worker n) v)) [
    | inl under ↦ elim (cases_Bool (has_pair wave.barred s n)) [
      | inl here ↦ inl (n, omega arith, under, here)
      | inr free ↦ inr (λ w m u b. elim (cases_eq w n) [
        | inl e ↦ false≢true (sym free ∙ subst (λ (x : ℕ). HasPair wave.barred s x) e b)
        | inr d ↦ none w (omega arith) u b
      ])
    ]
    | inr off ↦ inr (λ w m u b. elim (cases_eq w n) [
      | inl e ↦ false≢true (sym off ∙ subst (λ (x : ℕ). is_under wave.tree (Worker x) v ≡ true) e u)
      | inr d ↦ none w (omega arith) u b
    ])
  ]
]

pub bar_or_not : (wave : Wave) (s : ℕ) (v : TreeNode) → HasBarUnder wave s v ⊎ (HasBarUnder wave s v → ⊥)
bar_or_not wave s v = elim (bar_below wave s v (length wave.workers) (omega arith)) [
  | inl b ↦ inl b
  | inr none ↦ inr (λ b. none b.0 b.1 b.2 b.3)
]

-- the largest node above a worker, up to a level, that has no barred worker under it
record Largest (wave : Wave) (s w level : ℕ) : Type 0 where
  pub at : ℕ
  pub few : at ≤ level
  pub no_bar : HasBarUnder wave s (node_above wave.tree at w) → ⊥
  pub top : (at ≡ level) ⊎ HasBarUnder wave s (node_above wave.tree (suc at) w)

climb : (wave : Wave) (s w : ℕ) → (HasPair wave.barred s w → ⊥) → (level : ℕ) → Largest wave s w level
climb wave s w free zero = record {
  at = 0;
  few = omega arith;
  no_bar = λ b. free (subst (λ (x : ℕ). HasPair wave.barred s x) (sym (eqb-true w b.0 b.2)) b.3);
  top = inl refl;
}
climb wave s w free (suc level) = let rest = climb wave s w free level in elim rest.top [
  | inr bar ↦ record { at = rest.at; few = (let few = rest.few in omega arith); no_bar = rest.no_bar; top = inr bar }
  | inl same ↦ elim (bar_or_not wave s (node_above wave.tree (suc level) w)) [
    | inr none ↦ record { at = suc level; few = omega arith; no_bar = none; top = inl refl }
    | inl bar ↦ record {
      at = rest.at;
      few = omega arith;
      no_bar = rest.no_bar;
      top = inr (subst (λ (x : ℕ). HasBarUnder wave s (node_above wave.tree (suc x) w)) (sym same) bar);
    }
  ]
]

-- nodes above a worker hang below one another
pub above_above : (tree : Tree) (w j level : ℕ) → j ≤ level → level < 4
    → is_under tree (node_above tree j w) (node_above tree level w) ≡ true
above_above tree w j (suc (suc (suc level))) l m = refl
above_above tree w zero level l m = own_above tree level w
above_above tree w (suc zero) zero l m = absurd (omega arith)
above_above tree w (suc zero) (suc zero) l m = own_above tree 1 w
above_above tree w (suc zero) (suc (suc zero)) l m = own_above tree 2 w
above_above tree w (suc (suc zero)) zero l m = absurd (omega arith)
above_above tree w (suc (suc zero)) (suc zero) l m = absurd (omega arith)
above_above tree w (suc (suc zero)) (suc (suc zero)) l m = own_above tree 2 w
above_above tree w (suc (suc (suc j))) zero l m = absurd (omega arith)
above_above tree w (suc (suc (suc j))) (suc zero) l m = absurd (omega arith)
above_above tree w (suc (suc (suc j))) (suc (suc zero)) l m = absurd (omega arith)

parent_above : (tree : Tree) (w j : ℕ) → j < 3 → parent tree (node_above tree j w) ≡ node_above tree (suc j) w
parent_above tree w zero l = refl
parent_above tree w (suc zero) l = refl
parent_above tree w (suc (suc zero)) l = refl
parent_above tree w (suc (suc (suc j))) l = absurd (omega arith)

same_above : (tree : Tree) (level h w : ℕ) → level < 4 → Meet tree level h w
    → node_above tree level w ≡ node_above tree level h
same_above tree zero h w l m = ap Worker (sym m)
same_above tree (suc zero) h w l m = ap Rack (sym m)
same_above tree (suc (suc zero)) h w l m = ap Centre (sym m)
same_above tree (suc (suc (suc level))) h w l m = refl

-- the nodes above a worker are the tree's
pub node_known : (wave : Wave) (w level : ℕ) → IsKnown wave → w < length wave.workers
    → IsNode wave.tree (node_above wave.tree level w)
node_known wave w zero known l = (let lines = known.lines in omega arith)
node_known wave w (suc zero) known l = known.racks w l
node_known wave w (suc (suc zero)) known l = known.centres (slice_index wave.tree.rack_of w) (known.racks w l)
node_known wave w (suc (suc (suc level))) known l = tt

-- each admissible start has an end above its worker that costs no more
pub end_complete : (wave : Wave) (s w : ℕ) → IsWithinReach wave.tree → IsKnown wave → IsAdmissible wave s w
    → (e : End) × IsEnd wave s e × (is_under wave.tree (Worker w) e.node ≡ true)
    × (end_cost wave s e ≤ unwrap_or (cost wave s w) 0)
end_complete wave s w near known a =
    let best = nearest wave s w near a.held in
    let holder : ℕ = best.holder in
    let level : ℕ = best.level in
    let most : level < 4 = reach_few wave.tree level best.within in
    let low = climb wave s w a.not_barred level in
    let few : low.at < 4 = (let l = low.few in omega arith) in
    let same = same_above wave.tree level holder w most best.meet in
    let e : End = record { node = node_above wave.tree low.at w; level = level } in
    let cheap = cost_is wave s w a.held best in (
      e,
      record {
        pending = a.pending;
        known = node_known wave w low.at known (live_known wave w a.live);
        level = best.within;
        holder = holder;
        held = best.among;
        near = subst (λ (v : TreeNode). is_under wave.tree (node_above wave.tree low.at w) v ≡ true) same
            (above_above wave.tree w low.at level low.few most);
        no_bar = low.no_bar;
        largest = elim low.top [
          | inl top ↦ inl (ap (λ (j : ℕ). node_above wave.tree j w) top ∙ same)
          | inr bar ↦ elim (cases_lt low.at 3) [
            | inl l ↦ inr (subst (HasBarUnder wave s) (sym (parent_above wave.tree w low.at l)) bar)
            | inr past ↦
                (let top : low.at ≡ level = (let l = low.few in omega arith) in
                inl (ap (λ (j : ℕ). node_above wave.tree j w) top ∙ same))
          ]
        ];
      },
      own_above wave.tree low.at w,
      omega arith,
    )
