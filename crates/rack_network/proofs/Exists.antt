-- Each wave has a rack network: it can be told of each arc whether the wave has it, so a list of them is made
-- row by row, as the network is built.
use Rattle.std.proofs.Common.{◌≡◌, ℕ, zero, suc, ◌+◌, ◌<◌, ◌≤◌, true, List, [], ◌∷◌, ◌++◌, length, refl, sym}
use Rattle.std.proofs.Common.{◌∙◌, subst, ◌⊎◌, inl, inr, arith, Contains}
use Rattle.std.proofs.lemmas.Bool.{cases_Bool, cases_eq, cases_lt, false≢true}
use Rattle.node_ids.specs.Sets.{has_pair}
use Rattle.flow_network.specs.declared.arcs.FlowArc.{FlowArc}
use Rattle.flow_network.specs.Flow.{Flow}
use Rattle.flow_network.proofs.Members.{Contains-nil, Contains-here, Contains-there, Contains-cons}
use Rattle.wave_problem.specs.Wave.{Wave, IsAdmissible, split_at, worker_at, live_holders}
use Rattle.network_prices.proofs.Certified.{usable_or_not}
use Rattle.network_prices.proofs.Potentials.{read_off}
use Rattle.network_prices.proofs.Rows.{IsRow, row_begin, row_step, row_skip, row_close}
use Rattle.rack_network.specs.declared.layout.RackLayout.{RackLayout}
use Rattle.rack_network.specs.declared.arcs.RackArc.{RackArc}
use Rattle.rack_network.specs.declared.arcs.RackArc.TheVariants.{Wait, Slot, Rest}
use Rattle.rack_network.specs.Racks.{count, start, node, parent, above, unstarted_node, rack_nodes}
use Rattle.rack_network.specs.Racks.{HasBars, IsDown, IsReach, IsTree, IsUnder, arc_of, IsSized}
use Rattle.rack_network.specs.Racks.{IsWanted, IsRackNetwork}
use Rattle.rack_network.specs.Build.{IsBuiltWithin}
use Rattle.rack_network.specs.Certified.{RackNetworkExists, CertifiedIsOverRacks}
use Rattle.rack_network.proofs.Heights.{next_level}
use Rattle.rack_network.proofs.Layers.{is_layered}
use Rattle.rack_network.proofs.RackWays.{bars_or_not, wave_network}
use Rattle.rack_network.proofs.Rows.{pairs, pairs_past, reaches, inside, wait_step, idle_row, downs}
use Rattle.rack_network.proofs.Rows.{downs_inside, slot_step, all_arcs, nothing_built}

module _ (wave : Wave) (tree : IsTree wave) where
  admissible_or_not : (s w : ℕ) → (split_at wave s).pending ≡ true
      → IsAdmissible wave s w ⊎ (IsAdmissible wave s w → ⊥)
  admissible_or_not s w pending = elim (usable_or_not wave w) [
    | inr not ↦ inr (λ may. not (may.live, may.has_slot))
    | inl u ↦ elim (cases_lt 0 (length (live_holders wave s))) [
      | inr none ↦ inr (λ may. (let held = may.held in omega arith))
      | inl held ↦ elim (cases_Bool (has_pair wave.barred s w)) [
        | inl barred ↦ inr (λ may. may.not_barred barred)
        | inr free ↦ inl (record {
          pending = pending;
          held = held;
          live = u.0;
          has_slot = u.1;
          not_barred = λ barred. false≢true (sym free ∙ barred);
        })
      ]
    ]
  ]

  under_or_not : (w level i : ℕ) → IsUnder wave w level i ⊎ (IsUnder wave w level i → ⊥)
  under_or_not w level i = elim (cases_Bool (worker_at wave w).live) [
    | inr dead ↦ inr (λ at. false≢true (sym dead ∙ at.live))
    | inl live ↦ elim (cases_eq (above wave level w) i) [
      | inr off ↦ inr (λ at. off at.under)
      | inl on ↦ elim (cases_lt 0 (level + (worker_at wave w).free)) [
        | inr none ↦ inr (λ at. (let slot = at.has_slot (omega arith) in omega arith))
        | inl some ↦ inl (record { live = live; under = on; has_slot = λ own. omega arith })
      ]
    ]
  ]

  held_or_not : (level i : ℕ) (holders : List ℕ)
      → ((h : ℕ) × Contains holders h × IsUnder wave h level i)
      ⊎ ((h : ℕ) → Contains holders h → IsUnder wave h level i → ⊥)
  held_or_not level i [] = inr (λ h on at. Contains-nil h on)
  held_or_not level i (h ∷ holders) = elim (under_or_not h level i) [
    | inl at ↦ inl (h, Contains-here holders h, at)
    | inr off ↦ elim (held_or_not level i holders) [
      | inl found ↦ inl (found.0, Contains-there h holders found.0 found.1, found.2)
      | inr none ↦ inr (λ g on at. elim (Contains-cons h holders g on) [
        | inl e ↦ off (subst (λ (x : ℕ). IsUnder wave x level i) (sym e) at)
        | inr there ↦ none g there at
      ])
    ]
  ]

  reach_or_not : (s level i : ℕ) → (split_at wave s).pending ≡ true → (HasBars wave s → ⊥)
      → IsReach wave s level i ⊎ (IsReach wave s level i → ⊥)
  reach_or_not s level i pending no_bars = elim (cases_lt i (count wave level)) [
    | inr past ↦ inr (λ at. (let known = at.known in omega arith))
    | inl known ↦ elim (held_or_not level i (split_at wave s).holders) [
      | inl held ↦ inl (record { pending = pending; no_bars = no_bars; known = known; below = held })
      | inr none ↦ inr (λ at. none at.below.0 at.below.1 at.below.2)
    ]
  ]

  down_or_not : (level j i : ℕ) → (IsDown wave level i × (parent wave level i ≡ j))
      ⊎ (IsDown wave level i × (parent wave level i ≡ j) → ⊥)
  down_or_not level j i = elim (cases_lt i (count wave level)) [
    | inr past ↦ inr (λ own. (let known = own.0.known in omega arith))
    | inl known ↦ elim (cases_lt (parent wave level i) (count wave (suc level))) [
      | inr past ↦ inr (λ own. (let hangs = own.0.hangs in omega arith))
      | inl hangs ↦ elim (cases_eq (parent wave level i) j) [
        | inr off ↦ inr (λ own. off own.1)
        | inl on ↦ elim (cases_lt 0 level) [
          | inl up ↦ inl (record { known = known; hangs = hangs; usable = λ e. absurd (omega arith) }, on)
          | inr low ↦ elim (usable_or_not wave i) [
            | inr not ↦ inr (λ own. not (own.0.usable (omega arith)))
            | inl u ↦ inl (record { known = known; hangs = hangs; usable = λ e. u }, on)
          ]
        ]
      ]
    ]
  ]

  -- a network that is built as far as a place, and a number of arcs that it does not exceed
  abbrev Made : ℕ → ℕ → Type 0
  Made u x = (network : Flow RackLayout) × (limit : ℕ) × IsBuiltWithin wave u x limit network

  -- one with an arc more
  abbrev more : FlowArc → Flow RackLayout → Flow RackLayout
  more a network = record {
    layout = network.layout;
    arcs = network.arcs ++ a ∷ [];
    flows = network.flows ++ 0 ∷ [];
  }

  row_made : {u base n : ℕ} {own : ℕ → RackArc} {holds : ℕ → Type 0}
      → IsRow (IsWanted wave) (arc_of wave) u base n own holds
      → ((i : ℕ) → holds i ⊎ (holds i → ⊥)) → (m : ℕ) → m ≤ n → Made u (base + 0) → Made u (base + m)
  row_made row decide zero l begun = begun
  row_made {u} {base} {n} {own} row decide (suc m) l begun =
      let before = row_made row decide m (omega arith) begun in
      let limit : ℕ = before.1 in
      let next : m + 1 ≡ suc m = omega arith in
      elim (decide m) [
        | inl has ↦
            (let new : Flow RackLayout = more (arc_of wave (own m)) before.0 in (
              new,
              limit + 1,
              subst (λ (k : ℕ). IsBuiltWithin wave u (base + k) (limit + 1) new) next
                  (row_step row m m limit (limit + 1) before.0 new refl (omega arith) (omega arith) has before.2
                  (refl, refl, refl)),
            ))
        | inr not ↦ (
          before.0,
          limit,
          subst (λ (k : ℕ). IsBuiltWithin wave u (base + k) limit before.0) next
              (row_skip row m m limit limit before.0 refl (omega arith) (omega arith) not before.2),
        )
      ]

  -- the rows of the splits
  module _ (s : ℕ) (split : s < length wave.splits) (pending : (split_at wave s).pending ≡ true) where
    reaches_made : (HasBars wave s → ⊥) → (level x : ℕ) → x ≡ start wave level + 0 → Made s x
        → Made s (start wave level + count wave level)
    reaches_made no_bars level x here begun =
        row_made (reaches wave s level split no_bars) (λ i. reach_or_not s level i pending no_bars)
        (count wave level) (omega arith) (subst (Made s) here begun)

    all_reaches_made : (HasBars wave s → ⊥) → Made s 0 → Made s (unstarted_node wave)
    all_reaches_made no_bars begun =
        reaches_made no_bars 0 _ (omega arith) (reaches_made no_bars 1 _ (omega arith)
        (reaches_made no_bars 2 _ (omega arith) (reaches_made no_bars 3 _ refl (
          begun.0,
          begun.1,
          row_begin (reaches wave s 3 split no_bars) begun.1 begun.1 begun.0 (omega arith)
              (λ e want from. (inside wave e want).1) begun.2,
        ))))

    pairs_made : HasBars wave s → Made s 0 → Made s (unstarted_node wave)
    pairs_made bars begun =
        let row = pairs wave s split bars in
        row_made row (λ w. admissible_or_not s w pending) (length wave.workers) (omega arith) (
          begun.0,
          begun.1,
          row_begin row begun.1 begun.1 begun.0 (omega arith) (pairs_past wave s split bars) begun.2,
        )

    split_made : Made s 0 → Made (s + 1) 0
    split_made begun =
        let row : Made s (unstarted_node wave) = elim (bars_or_not wave s)
        [ inl bars ↦ pairs_made bars begun | inr none ↦ all_reaches_made none begun ] in
        let new : Flow RackLayout = more (arc_of wave (Wait s)) row.0 in
        let next : ℕ = row.1 + 1 in
        (new, next, wait_step wave s row.1 next row.0 new (omega arith) split pending row.2 (refl, refl, refl))

  splits_made : (s : ℕ) → s ≤ length wave.splits → Made 0 0 → Made s 0
  splits_made zero l begun = begun
  splits_made (suc s) l begun =
      let before = splits_made s (omega arith) begun in
      let next : s + 1 ≡ suc s = omega arith in
      subst (λ (u : ℕ). Made u 0) next (elim (cases_Bool (split_at wave s).pending) [
        | inl pending ↦ split_made s (omega arith) pending before
        | inr idle ↦
            (let limit : ℕ = before.1 in
            (before.0, limit, idle_row wave s limit limit before.0 (omega arith) (omega arith) idle before.2))
      ])

  -- the rows of the parents of a level's nodes
  downs_made : (level j : ℕ) → j ≤ count wave (suc level) → Made (start wave (suc level)) 0
      → Made (node wave (suc level) j) 0
  downs_made level zero l begun =
      subst (λ (u : ℕ). Made u 0) (let e : start wave (suc level) ≡ node wave (suc level) 0 = omega arith in e)
      begun
  downs_made level (suc j) l begun =
      let before = downs_made level j (omega arith) begun in
      let row = downs wave level j (omega arith) in
      let inside = downs_inside wave level j (omega arith) in
      let limit : ℕ = before.1 in
      let first = row_begin row limit limit before.0 (omega arith) (λ e want from. (inside e want from).0)
      before.2 in
      let empty : Made (node wave (suc level) j) (start wave level + 0) = (before.0, limit, first) in
      let all = row_made row (down_or_not level j) (count wave level) (omega arith) empty in (
        all.0,
        all.1,
        row_close row (node wave (suc level) (suc j)) all.1 all.1 all.0 (omega arith) (omega arith)
            (λ e want from. (inside e want from).1) all.2,
      )

  level_made : (level : ℕ) → level < 3 → Made (start wave (suc level)) 0 → Made (start wave level) 0
  level_made level l begun = subst (λ (u : ℕ). Made u 0) (next_level wave level l)
      (downs_made level (count wave (suc level)) (omega arith) begun)

  slots_made : (j : ℕ) → j ≤ length wave.workers → Made (start wave 0) 0 → Made (node wave 0 j) 0
  slots_made zero l begun =
      subst (λ (u : ℕ). Made u 0) (let e : start wave 0 ≡ node wave 0 0 = omega arith in e) begun
  slots_made (suc j) l begun =
      let before = slots_made j (omega arith) begun in
      let new : Flow RackLayout = more (arc_of wave (Slot j)) before.0 in
      let limit : ℕ = before.1 in
      let next : j + 1 ≡ suc j = omega arith in
      subst (λ (k : ℕ). Made (node wave 0 k) 0) next (
        new,
        limit + 1,
        slot_step wave j j limit (limit + 1) before.0 new (omega arith) refl (omega arith) before.2
            (refl, refl, refl),
      )

  pub exists : (arcs : List FlowArc) × IsRackNetwork wave arcs
  exists =
      let layout : RackLayout = record {
        splits = length wave.splits;
        centres = wave.tree.centres;
        racks = length wave.tree.centre_of;
        workers = length wave.workers;
      } in
      let none : Flow RackLayout = record { layout = layout; arcs = []; flows = [] } in
      let sized : IsSized wave layout = record { splits = refl; centres = refl; racks = refl; workers = refl } in
      let begun : Made 0 0 = (none, 0, nothing_built wave none sized refl refl) in
      let splits = splits_made (length wave.splits) (omega arith) begun in
      let levels = level_made 0 (omega arith) (level_made 1 (omega arith) (level_made 2 (omega arith) splits)) in
      let slots = slots_made (length wave.workers) (omega arith) levels in
      let all : Flow RackLayout = more (arc_of wave Rest) slots.0 in
      let rows = all_arcs wave slots.1 (slots.1 + 1) slots.0 all (omega arith) slots.2 (refl, refl, refl) in
      (all.arcs, record { rows = rows.0; tree = tree })

pub rack_network_exists : RackNetworkExists
rack_network_exists = exists

pub certified_is_over_racks : CertifiedIsOverRacks
certified_is_over_racks wave starts workers prices tree sizes certified idle =
    let network = rack_network_exists wave tree in
    read_off wave (start wave 0) (rack_nodes wave).above network.0 starts workers prices
    (is_layered wave network.0 network.1) (wave_network wave network.0 network.1) sizes certified idle
    (IsRackNetwork wave) network.1
