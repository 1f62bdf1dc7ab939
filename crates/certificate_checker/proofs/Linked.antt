-- Chains of slots, and what a walk along one shows.
use Rattle.std.proofs.Common.{◌≡◌, ℕ, ◌<◌, ◌≤◌, ◌++◌, length, take, drop, List, inl, inr, ap}
use Rattle.std.proofs.Common.{subst, sym, get_or, ◌∙◌, arith}
use Rattle.std.proofs.Math.Seq.{take-append_seam}
use Rattle.std.proofs.Math.ListN.{drop_of_length-le}
use Rattle.std.proofs.lemmas.Bool.{cases_lt}
use Rattle.std.proofs.lemmas.List.{get_or_default}
use Rattle.std.specs.Prelude.{Contains}
use Rattle.std.specs.List.Sorted.{IsNonDecreasingBy, IsPermutation}
use Rattle.std.proofs.lemmas.List.Elements.{at_from_Contains, All-from_get_or, Contains-get_or}
use Rattle.std.proofs.lemmas.List.Sorted.{length_permutation, All-permutation, Contains-permutation}
use Rattle.wave_problem.specs.Wave.{IsUsable}
use Rattle.wave_problem.proofs.Bound.{live_known}
use Rattle.node_ids.specs.Sets.{HasPair}
use Rattle.rack_tree.specs.Tree.{Tree}
use Rattle.rack_tree.specs.declared.TheConstants.{MAX_WORKERS}
use Rattle.price_certificate.specs.Certificate.{Claim, worker_price}
use Rattle.certificate_checker.specs.declared.slots.Level.{Level}
use Rattle.certificate_checker.specs.declared.slots.Slot.{Slot}
use Rattle.certificate_checker.specs.Slots.{node_at, slot_at, AreFrom, AreSlots, IsNext}

-- a list in which its sorted part, all of it, is written back
pub written_back : {X : Type 0} (xs ys : List X) (n : ℕ) → length xs ≡ n → length ys ≡ length xs →
    take n (ys ++ drop (length ys) xs) ≡ ys
written_back xs ys n long same = grind (arith, take-append_seam, drop_of_length-le)

-- from the end on there is none
pub none_next : (nodes : ℕ → ℕ) (end v next : ℕ) → next ≡ end → IsNext nodes end v end next
none_next nodes end v next e = record {
  on = omega (arith, e);
  within = omega (arith, e);
  under = λ before. absurd (omega (arith, e));
  others = λ j from before. absurd (omega (arith, e));
}

-- the node above the slot that is read at a place
pub same_node : (tree t : Tree) (level : Level) (slots : List Slot) (k node : ℕ) (d : Slot) →
    k < length slots → t ≡ tree → node ≡ node_at t level (get_or slots k d).worker →
    node_at tree level (slot_at slots k).worker ≡ node
same_node tree t level slots k node d within same is =
    sym (is ∙ ap (λ (z : Tree). node_at z level (get_or slots k d).worker) same
    ∙ ap (λ (slot : Slot). node_at tree level slot.worker) (get_or_default slots k d _ within))

same_slot : (a b : Slot) → a.worker ≡ b.worker → a.price ≡ b.price → a ≡ b
same_slot a b e f =
    ap (λ (n : ℕ). let z : Slot = record { worker = n; price = a.price } in z) e
    ∙ ap (λ (n : ℕ). let z : Slot = record { worker = b.worker; price = n } in z) f

-- a list with the slot of each worker at its place, sorted
pub sorted_slots : (claim : Claim) (xs ys : List Slot) → length xs ≡ length claim.wave.workers →
    length xs ≤ MAX_WORKERS →
    ((k : ℕ) → k < length xs → ((slot_at xs k).worker ≡ k)
    × (IsUsable claim.wave.workers k → (slot_at xs k).price ≡ worker_price claim.prices k)) →
    IsPermutation xs ys → IsNonDecreasingBy (λ (slot : Slot). slot.price) ys → AreSlots claim ys
sorted_slots claim xs ys long few each moved up =
    let none : Slot = record { worker = 0; price = 0 } in
    let known : Slot → Type 0 = λ slot. slot.worker < length claim.wave.workers in record {
      few = omega (arith, length_permutation xs ys moved);
      known = All-permutation known xs ys moved
          (All-from_get_or known xs none (λ k within. omega (arith, (each k within).0)));
      rising = up;
      each = λ w usable.
          let within : w < length xs = omega (arith, live_known claim.wave w usable.0) in
          Contains-permutation xs ys _ moved
          (subst (Contains xs) (same_slot (slot_at xs w) (record {
            worker = w;
            price = worker_price claim.prices w;
          }) (each w within).0 ((each w within).1 usable)) (Contains-get_or xs w none within));
    }

-- a walk along the slots under a node has passed those before a place, all of them barred, and those from it
-- on are dear
pub walked : (claim : Claim) (s : ℕ) (level : Level) (node least place : ℕ) (slots : List Slot) →
    AreSlots claim slots →
    ((k : ℕ) → k < place → node_at claim.wave.tree level (slot_at slots k).worker ≡ node →
    HasPair claim.wave.barred s (slot_at slots k).worker) →
    ((k : ℕ) → place ≤ k → k < length slots → least ≤ (slot_at slots k).price) →
    AreFrom claim s level node least
walked claim s level node least place slots are passed rest w usable under free =
    let at = at_from_Contains slots _ (are.each w usable) in
    let same = at.2 (record { worker = 0; price = 0 }) in
    let worker = ap (λ (slot : Slot). slot.worker) same in
    let price = ap (λ (slot : Slot). slot.price) same in
    elim (cases_lt at.0 place) [
      | inl before ↦ absurd (free (subst (HasPair claim.wave.barred s) worker
          (passed at.0 before (ap (node_at claim.wave.tree level) worker ∙ under))))
      | inr after ↦ omega (arith, price, rest at.0 after at.1)
    ]
