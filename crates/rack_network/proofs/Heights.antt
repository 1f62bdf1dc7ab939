-- Where the nodes of a level stand, and which of them are on a way up.
use Rattle.std.proofs.Common.{◌≡◌, ℕ, zero, suc, ◌+◌, ◌*◌, ◌<◌, ◌≤◌, Bool, cond, [], ◌∷◌, length, refl, sym}
use Rattle.std.proofs.Common.{◌-◌, subst, ap, inl, inr, arith, Contains}
use Rattle.std.proofs.lemmas.Bool.{cases_lt, cases_eq, lt-ltb, le-ltb}
use Rattle.rack_tree.specs.Tree.{distance}
use Rattle.wave_problem.specs.Wave.{Wave}
use Rattle.flow_network.proofs.Members.{Contains-nil, Contains-here, Contains-one}
use Rattle.network_prices.specs.Networks.{way_of}
use Rattle.rack_network.specs.Layout.{clusters}
use Rattle.rack_network.specs.Racks.{count, start, node, above, unstarted_node}
use Rattle.rack_network.specs.Racks.{above_centres, rack_nodes, IsTree}
use Rattle.rack_network.specs.Build.{IsSmallWave}
use Rattle.rack_network.specs.Places.{several, one_cluster, clusters-le}
use Rattle.rack_network.proofs.Distances.{distance_is}

module _ (wave : Wave) where
  pub four_levels : (level i : ℕ) → i < count wave level → level < 4
  four_levels (suc (suc (suc (suc level)))) i l = absurd (omega arith)
  four_levels zero i l = omega arith
  four_levels (suc zero) i l = omega arith
  four_levels (suc (suc zero)) i l = omega arith
  four_levels (suc (suc (suc zero))) i l = omega arith

  pub hang_low : (level j : ℕ) → j < count wave (suc level) → level < 3
  hang_low level j l = let four = four_levels (suc level) j l in omega arith

  -- the nodes of a level stand between the splits and the node Unstarted
  pub level_in : (level : ℕ) → (length wave.splits ≤ start wave level)
      × (start wave level + count wave level ≤ unstarted_node wave)
  level_in zero = (omega arith, omega arith)
  level_in (suc zero) = (omega arith, omega arith)
  level_in (suc (suc zero)) = (omega arith, omega arith)
  level_in (suc (suc (suc zero))) = (omega arith, omega arith)
  level_in (suc (suc (suc (suc level)))) = (omega arith, omega arith)

  -- the levels lie one after the other, the highest first
  pub next_level : (level : ℕ) → level < 3
      → start wave (suc level) + count wave (suc level) ≡ start wave level
  next_level zero l = omega arith
  next_level (suc zero) l = omega arith
  next_level (suc (suc zero)) l = omega arith
  next_level (suc (suc (suc level))) l = absurd (omega arith)

  levels_fall : (gap low : ℕ) → suc gap + low < 4
      → start wave (suc gap + low) + count wave (suc gap + low) ≤ start wave low
  levels_fall zero low l =
      let here = next_level low (omega arith) in subst
      (λ (high : ℕ). start wave high + count wave high ≤ start wave low)
      (let e : suc low ≡ suc zero + low = omega arith in e) (omega arith)
  levels_fall (suc gap) low l =
      let here = next_level (suc gap + low) (omega arith) in
      let rest = levels_fall gap low (omega arith) in subst
      (λ (high : ℕ). start wave high + count wave high ≤ start wave low)
      (let e : suc (suc gap + low) ≡ suc (suc gap) + low = omega arith in e) (omega arith)

  pub upper_in : (level : ℕ) → start wave (suc level) + count wave (suc level) ≤ start wave 0
  upper_in zero = omega arith
  upper_in (suc zero) = omega arith
  upper_in (suc (suc zero)) = omega arith
  upper_in (suc (suc (suc level))) = omega arith

  -- no two nodes stand at one place
  pub one_node : (level m i j : ℕ) → i < count wave level → j < count wave m → node wave level i ≡ node wave m j
      → (level ≡ m) × (i ≡ j)
  one_node level m i j l k e = elim (cases_eq level m) [
    | inl same ↦ (same, (let at : start wave level ≡ start wave m = ap (start wave) same in omega arith))
    | inr other ↦ absurd (elim (cases_lt level m) [
      | inl less ↦ below level m i j l k e less
      | inr more ↦ below m level j i k l (sym e) (omega arith)
    ])
  ]
    where
      below : (level m i j : ℕ) → i < count wave level → j < count wave m → node wave level i ≡ node wave m j
          → level < m → ⊥
      below level m i j l k e less =
          let four = four_levels m j k in
          let back : suc (m - suc level) + level ≡ m = omega arith in
          let fall = subst (λ (high : ℕ). start wave high + count wave high ≤ start wave level) back
          (levels_fall (m - suc level) level (omega arith)) in
          omega arith

-- a small wave has few places past the splits
pub few_columns : (wave : Wave) → IsSmallWave wave → unstarted_node wave ≤ length wave.splits + 297
few_columns wave small =
    let one = clusters-le wave.tree.centres in
    let centres = small.few_centres in
    let racks = small.few_racks in
    let workers = small.few_workers in
    omega arith

-- how many levels there are
abbrev pub levels : Wave → ℕ
levels wave = 3 + clusters wave.tree.centres

module _ (wave : Wave) (tree : IsTree wave) where
  pub above_in : (level w : ℕ) → level < levels wave → w < length wave.workers
      → above wave level w < count wave level
  above_in zero w l known = known
  above_in (suc zero) w l known = tree.racks w known
  above_in (suc (suc zero)) w l known = tree.centres (above wave 1 w) (tree.racks w known)
  above_in (suc (suc (suc zero))) w l known = omega arith
  above_in (suc (suc (suc (suc level)))) w l known =
      absurd (let one = clusters-le wave.tree.centres in omega arith)

  -- the cluster's node is on each way where there are several centres
  among_top : (v : ℕ) → Contains (above_centres wave) v → (3 < levels wave) × (v ≡ node wave 3 0)
  among_top v among = elim (cases_lt 1 wave.tree.centres) [
    | inl many ↦
        (let one = one_cluster wave.tree.centres many in
        let here : Contains (node wave 3 0 ∷ []) v =
        subst (λ (b : Bool). Contains (cond b (node wave 3 0 ∷ []) []) v)
        (lt-ltb 1 wave.tree.centres many) among in
        (omega arith, sym (Contains-one (node wave 3 0) v here)))
    | inr few ↦ absurd (Contains-nil v (subst (λ (b : Bool). Contains (cond b (node wave 3 0 ∷ []) []) v)
        (le-ltb 1 wave.tree.centres (omega arith)) among))
  ]

  top_among : 3 < levels wave → Contains (above_centres wave) (node wave 3 0)
  top_among l =
      let many = several wave.tree.centres (omega arith) in
      subst (λ (b : Bool). Contains (cond b (node wave 3 0 ∷ []) []) (node wave 3 0))
      (sym (lt-ltb 1 wave.tree.centres many)) (Contains-here [] (node wave 3 0))

  -- what is on a way are the nodes above its worker
  pub among_level : (v w : ℕ) → Contains (way_of (rack_nodes wave) w) v
      → (m : ℕ) × (m < levels wave) × (v ≡ node wave m (above wave m w))
  among_level v w (zero, l, e) = (0, omega arith, sym e)
  among_level v w (suc zero, l, e) = (1, omega arith, sym e)
  among_level v w (suc (suc zero), l, e) = (2, omega arith, sym e)
  among_level v w (suc (suc (suc k)), l, e) = let is = among_top v (k, omega arith, e) in (3, is.0, is.1)

  pub among_at : (level w : ℕ) → level < levels wave
      → Contains (way_of (rack_nodes wave) w) (node wave level (above wave level w))
  among_at zero w l = (0, omega arith, refl)
  among_at (suc zero) w l = (1, omega arith, refl)
  among_at (suc (suc zero)) w l = (2, omega arith, refl)
  among_at (suc (suc (suc zero))) w l =
      let top = top_among l in let low = top.1 in (suc (suc (suc top.0)), omega arith, top.2)
  among_at (suc (suc (suc (suc level)))) w l =
      absurd (let one = clusters-le wave.tree.centres in omega arith)

  -- a node that is on a worker's way stands above it
  pub own_level : (level i w : ℕ) → i < count wave level → w < length wave.workers
      → Contains (way_of (rack_nodes wave) w) (node wave level i) → i ≡ above wave level w
  own_level level i w l known among =
      let on = among_level (node wave level i) w among in
      let same = one_node wave level on.0 i (above wave on.0 w) l (above_in on.0 w on.1 known) on.2 in
      subst (λ (m : ℕ). i ≡ above wave m w) (sym same.0) same.1

  -- two workers meet at one of the levels, that of their distance
  pub level_of : (h w : ℕ) → h < length wave.workers → w < length wave.workers
      → (level : ℕ) × (level < levels wave) × (above wave level h ≡ above wave level w)
      × (distance wave.tree h w ≡ 2 * level)
  level_of h w h_known known =
      let meet = distance_is wave h w in
      let few = meet.1 in
      let here = above_in 2 h (omega arith) h_known in
      let there = above_in 2 w (omega arith) known in
      let within : meet.0 < levels wave = elim (cases_lt 2 meet.0) [
        | inr low ↦ omega arith
        | inl high ↦ elim (cases_lt 1 wave.tree.centres) [
          | inl many ↦ (let one = one_cluster wave.tree.centres many in omega arith)
          | inr single ↦ absurd (meet.4 high (omega arith))
        ]
      ] in
      (meet.0, within, meet.2, meet.3)
