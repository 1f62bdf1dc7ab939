-- A row of a table is built arc by arc.
use Rattle.std.proofs.Common.{◌≡◌, ℕ, ◌+◌, ◌<◌, ◌≤◌, List, get_or, refl, sym, ap, ◌∙◌, subst, ◌⊎◌, inl, inr}
use Rattle.std.proofs.Common.{arith}
use Rattle.std.proofs.lemmas.Bool.{cases_lt}
use Rattle.flow_network.specs.declared.arcs.FlowArc.{FlowArc}
use Rattle.flow_network.specs.Flow.{Flow}
use Rattle.flow_network.specs.Laws.{outroom}
use Rattle.wave_problem.specs.Sums.{sum_below}
use Rattle.network_prices.specs.Building.{IsAdded}
use Rattle.network_prices.specs.Tables.{IsBefore, AreRows, IsBuiltTo}
use Rattle.network_prices.proofs.Tables.{built_take, built_pass, all_rows, each_arc}
use Rattle.network_prices.proofs.Tables.{outroom-rows}

-- what stands before a place of a row stands before an earlier one, or between the two
between : (u x y : ℕ) (a : FlowArc) → IsBefore a u y
    → IsBefore a u x ⊎ ((a.from ≡ u) × (x ≤ a.to) × (a.to < y))
between u x y a (inl l) = inl (inl l)
between u x y a (inr e) = elim (cases_lt a.to x)
    [ inl l ↦ inl (inr (e.0, l)) | inr m ↦ inr (e.0, omega arith, e.1) ]

-- what stands before the next row stands before a place of this one, or past it
past : (u v x : ℕ) (a : FlowArc) → v ≡ u + 1 → IsBefore a v 0 → IsBefore a u x ⊎ ((a.from ≡ u) × (x ≤ a.to))
past u v x a next (inr e) = absurd (let none = e.1 in omega arith)
past u v x a next (inl l) = grind arith

-- the arcs of a row to the n nodes from base on are those of some numbers
pub record IsRow {D : Type 0} (wanted : D → Type 0) (arc : D → FlowArc) (u base n : ℕ) (own : ℕ → D)
    (holds : ℕ → Type 0) : Type 0 where
  pub here : (i : ℕ) → holds i → wanted (own i) × ((arc (own i)).from ≡ u) × ((arc (own i)).to ≡ base + i)
  pub only : (e : D) → wanted e → (arc e).from ≡ u → base ≤ (arc e).to → (arc e).to < base + n
      → (i : ℕ) × holds i × (e ≡ own i)

number_of : {D : Type 0} {wanted : D → Type 0} {arc : D → FlowArc} {u base n : ℕ} {own : ℕ → D}
    {holds : ℕ → Type 0} → IsRow wanted arc u base n own holds → (e : D) → wanted e → (arc e).from ≡ u
    → base ≤ (arc e).to → (arc e).to < base + n → (i : ℕ) × holds i × (e ≡ own i) × ((arc e).to ≡ base + i)
number_of {D} {wanted} {arc} row e want from low high = grind arith

module _ {D L : Type 0} {wanted : D → Type 0} {arc : D → FlowArc} {sized : L → Type 0} where
  -- the arc d is the only one between two places of its row
  pub row_take : (u x y limit next : ℕ) (d : D) (old new : Flow L) → limit < next → wanted d
      → (arc d).from ≡ u → x ≤ (arc d).to → (arc d).to < y
      → ((e : D) → wanted e → (arc e).from ≡ u → x ≤ (arc e).to → (arc e).to < y → arc e ≡ arc d)
      → IsBuiltTo wanted arc sized u x limit old → IsAdded (arc d) old new
      → IsBuiltTo wanted arc sized u y next new
  row_take u x y limit next d old new less want from low high only =
      built_take wanted arc sized u x u y limit next d old new less want (inr (sym from, low))
      (inr (from, high))
      (λ e wish before. elim (between u x y (arc e) before)
      [ inl was ↦ inl was | inr own ↦ inr (only e wish own.0 own.1 own.2) ])

  -- there is none between them
  pub row_pass : (u x y limit next : ℕ) (network : Flow L) → limit ≤ next → x ≤ y
      → ((e : D) → wanted e → (arc e).from ≡ u → x ≤ (arc e).to → (arc e).to < y → ⊥)
      → IsBuiltTo wanted arc sized u x limit network → IsBuiltTo wanted arc sized u y next network
  row_pass u x y limit next network less up none =
      built_pass wanted arc sized u x u y limit next network less (inr (refl, up))
      (λ e wish before. elim (between u x y (arc e) before)
      [ inl was ↦ was | inr own ↦ absurd (none e wish own.0 own.1 own.2) ])

  -- the arc d is the only one from a place of its row on
  pub row_last : (u v x limit next : ℕ) (d : D) (old new : Flow L) → v ≡ u + 1 → limit < next
      → wanted d → (arc d).from ≡ u → x ≤ (arc d).to
      → ((e : D) → wanted e → (arc e).from ≡ u → x ≤ (arc e).to → arc e ≡ arc d)
      → IsBuiltTo wanted arc sized u x limit old → IsAdded (arc d) old new
      → IsBuiltTo wanted arc sized v 0 next new
  row_last u v x limit next d old new row less want from low only =
      built_take wanted arc sized u x v 0 limit next d old new less want (inr (sym from, low))
      (inl (omega arith))
      (λ e wish before. elim (past u v x (arc e) row before)
      [ inl was ↦ inl was | inr own ↦ inr (only e wish own.0 own.1) ])

  -- there is none from it on
  pub row_end : (u v x limit next : ℕ) (network : Flow L) → v ≡ u + 1 → limit ≤ next
      → ((e : D) → wanted e → (arc e).from ≡ u → x ≤ (arc e).to → ⊥)
      → IsBuiltTo wanted arc sized u x limit network → IsBuiltTo wanted arc sized v 0 next network
  row_end u v x limit next network row less none =
      built_pass wanted arc sized u x v 0 limit next network less (inl (omega arith))
      (λ e wish before. elim (past u v x (arc e) row before)
      [ inl was ↦ was | inr own ↦ absurd (none e wish own.0 own.1) ])

  -- the arc d is the only one of the last row
  pub rows_all : (u limit next : ℕ) (d : D) (old new : Flow L) → limit < next → wanted d → (arc d).from ≡ u
      → ((e : D) → wanted e → ((arc e).from < u) ⊎ (e ≡ d))
      → IsBuiltTo wanted arc sized u 0 limit old → IsAdded (arc d) old new
      → AreRows wanted arc new.arcs × ((k : ℕ) → get_or new.flows k 0 ≡ 0)
  rows_all u limit next d old new less want from before built added =
      let done : IsBuiltTo wanted arc sized (u + 1) 0 next new =
      row_last u (u + 1) 0 limit next d old new refl less want from (omega arith)
      (λ e wish row low. elim (before e wish) [ inl b ↦ absurd (omega arith) | inr is ↦ ap arc is ])
      built added in (
        all_rows wanted arc (u + 1) 0 new.arcs
            (λ e wish. inl (elim (before e wish) [
              | inl b ↦ omega arith
              | inr is ↦ (let row = ap (λ (d : D). (arc d).from) is in omega arith)
            ]))
            done.rows,
        done.frame.empty,
      )

  -- the arcs of a row number by number
  module _ {u base n : ℕ} {own : ℕ → D} {holds : ℕ → Type 0} (row : IsRow wanted arc u base n own holds) where
    pub row_begin : (limit next : ℕ) (network : Flow L) → limit ≤ next
        → ((e : D) → wanted e → (arc e).from ≡ u → base ≤ (arc e).to)
        → IsBuiltTo wanted arc sized u 0 limit network
        → IsBuiltTo wanted arc sized u (base + 0) next network
    row_begin limit next network less past =
        row_pass u 0 (base + 0) limit next network less (omega arith)
        (λ e want from low high. let to = past e want from in omega arith)

    pub row_step : (i j limit next : ℕ) (old new : Flow L) → j ≡ i → i < n → limit < next → holds j
        → IsBuiltTo wanted arc sized u (base + i) limit old → IsAdded (arc (own j)) old new
        → IsBuiltTo wanted arc sized u (base + (i + 1)) next new
    row_step i j limit next old new same few less has =
        let at = row.here j has in
        let to = at.2 in
        row_take u (base + i) (base + (i + 1)) limit next (own j) old new less at.0 at.1 (omega arith)
        (omega arith)
        (λ e want from low high. let o = number_of row e want from (omega arith) (omega arith) in
        let end = o.3 in let is : o.0 ≡ j = omega arith in ap arc (o.2 ∙ ap own is))

    pub row_skip : (i j limit next : ℕ) (network : Flow L) → j ≡ i → i < n → limit ≤ next → (holds j → ⊥)
        → IsBuiltTo wanted arc sized u (base + i) limit network
        → IsBuiltTo wanted arc sized u (base + (i + 1)) next network
    row_skip i j limit next network same few less never =
        row_pass u (base + i) (base + (i + 1)) limit next network less (omega arith)
        (λ e want from low high. let o = number_of row e want from (omega arith) (omega arith) in
        let end = o.3 in let is : o.0 ≡ j = omega arith in never (subst holds is o.1))

    -- the row has no other arcs
    pub row_close : (v limit next : ℕ) (network : Flow L) → v ≡ u + 1 → limit ≤ next
        → ((e : D) → wanted e → (arc e).from ≡ u → (arc e).to < base + n)
        → IsBuiltTo wanted arc sized u (base + n) limit network → IsBuiltTo wanted arc sized v 0 next network
    row_close v limit next network after less inside =
        row_end u v (base + n) limit next network after less
        (λ e want from low. let high = inside e want from in omega arith)

-- what all arcs of a row can carry together, where the row has no arcs but these
pub outroom-row : {D : Type 0} {wanted : D → Type 0} {arc : D → FlowArc} {arcs : List FlowArc} {u base n : ℕ}
    {own : ℕ → D} {holds : ℕ → Type 0} → AreRows wanted arc arcs → IsRow wanted arc u base n own holds
    → ((e : D) → wanted e → (arc e).from ≡ u → (base ≤ (arc e).to) × ((arc e).to < base + n))
    → (f : ℕ → ℕ) → ((i : ℕ) → holds i → (arc (own i)).capacity ≡ f i)
    → ((i : ℕ) → i < n → 0 < f i → holds i) → outroom arcs u ≡ sum_below n f
outroom-row {D} {wanted} {arc} {arcs} {u} {base} {n} {own} {holds} rows row inside f room some =
    let own_arc = each_arc rows (λ a. a.from ≡ u
    → (i : ℕ) × holds i × (a.to ≡ base + i) × (a.to < base + n) × (a.capacity ≡ f i))
    (λ d want from. let in_row = inside d want from in let o = number_of row d want from in_row.0 in_row.1 in
    (o.0, o.1, o.3, in_row.1, ap (λ (d : D). (arc d).capacity) o.2 ∙ room o.0 o.1)) in
    outroom-rows arcs u base n f rows.rising
    (λ k l from. let to = (own_arc k l from).2 in omega arith)
    (λ k l from. (own_arc k l from).3)
    (λ i l. record {
      some = λ k m from to. let o = own_arc k m from in
          let at = o.2 in let same : o.0 ≡ i = omega arith in o.4 ∙ ap f same;
      none = grind arith;
    })
