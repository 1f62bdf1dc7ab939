-- All passes in one, the last first, and what is taken with it.
use Rattle.std.proofs.Common.{[], ◌≡◌, ℕ, true, List, ◌∷◌, ◌++◌, length, refl, ap, ◌∙◌, subst}
use Rattle.std.proofs.Common.{arith, append_assoc, length-append}
use Rattle.std.proofs.lemmas.List.{append-nil}
use Rattle.std.proofs.lemmas.List.Sums.{sum_by-append}
use Rattle.crossbeam_queue.specs.Fifo.{Held}
use Rattle.view_sums.proofs.Sums.{sum_by-one}
use Rattle.lane_queue.specs.declared.order.Order.{Order}
use Rattle.lane_queue.specs.declared.view.View.{View}
use Rattle.lane_queue.specs.Orders.{is_alone}
use Rattle.lane_queue.specs.Lanes.{PassValue, Knows, puts_of, takes_of, depths_of, one_each, AreWhole}
use Rattle.lane_queue.specs.Steps.{hand, both, depth_of, Totals}

-- what the passes know together
abbrev pub gathered : List PassValue → View
gathered cs = hand (puts_of cs) (takes_of cs) (depths_of cs) (one_each cs)

pub alone_none : (xs : List Order) → is_alone xs [] ≡ true
alone_none [] = refl
alone_none (x ∷ xs) = refl

pub next : (v w : View) (x : PassValue) (cs : List PassValue)
    → v ≡ hand v.puts v.takes (depth_of v.depths ∷ []) true
    → v.puts ≡ x.puts → v.takes ≡ x.takes → depth_of v.depths ≡ x.depth → w ≡ gathered cs
    → both v w ≡ gathered (x ∷ cs)
next v w x cs e p t d f = grind arith

pub moved : (all zs ys cs : List PassValue) (x : PassValue) → all ≡ zs ++ cs → zs ≡ ys ++ x ∷ []
    → all ≡ ys ++ x ∷ cs
moved all zs ys cs x e f = e ∙ ap (λ l. l ++ cs) f ∙ append_assoc ys (x ∷ []) cs

pub empty_list : {A : Type 0} (xs : List A) → length xs ≡ 0 → xs ≡ []
empty_list [] e = refl
empty_list (x ∷ xs) e = absurd (omega arith)

-- what one pass knows
pub knows : (v : View) (x : PassValue) (items : List Order)
    → v ≡ hand v.puts v.takes (depth_of v.depths ∷ []) true
    → v.puts ≡ x.puts → v.takes ≡ x.takes → depth_of v.depths ≡ x.depth → Totals v items → Knows x items
knows v x items e p t d s z = grind arith

-- the view, after so much was taken
abbrev pub further : View → List Order → View
further v left = hand v.puts (v.takes ++ left) v.depths v.ordered

ends : (v : View) (left items : List Order) → Totals (further v left) items
    → (AreWhole v.depths → length items ≡ 0) → Totals v left
ends v left items t none whole = grind (arith, empty_list, sum_by-append, append-nil)

pub ends_full : (v w : View) (left : List Order) (count : ℕ) → w ≡ further v left → length left ≡ count
    → Held count (Totals v) → ((items : List Order) × Totals w items) → Totals v left
ends_full v w left count e len held last =
    let now = subst (λ x. Totals x last.0) e last.1 in
    ends v left last.0 now
    (λ whole.
    let before = (held.2 whole).as_often (λ x. 1) in
    let after = (now whole).as_often (λ x. 1) in
    let longer = length-append v.takes left in
    omega (
      arith,
      before,
      after,
      sum_by-one v.puts,
      sum_by-one v.takes,
      sum_by-one held.0,
      sum_by-one last.0,
      sum_by-one (v.takes ++ left),
      longer,
      len,
      held.1,
    ))
