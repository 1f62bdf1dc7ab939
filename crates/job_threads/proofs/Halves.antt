-- What closed lanes and a closed board say.
use Rattle.std.proofs.Common.{[], ◌≡◌, ℕ, ◌+◌, ◌<◌, ◌∙◌, All, List, ◌∷◌, ◌++◌, Some, ap, append_assoc}
use Rattle.std.proofs.Common.{arith, get_or, length, length-append, refl, subst, sym}
use Rattle.std.specs.Prelude.{slice_get, slice_index}
use Rattle.std.proofs.Math.Seq.{get_or-append_seam}
use Rattle.std.proofs.lemmas.List.Elements.{All-head}
use Rattle.std.proofs.lemmas.Option.{slice_get_read}
use Rattle.beat_board.specs.Values.{AreToldOnce, AreWithin, ReaderValue, SeatValue, beats_by}
use Rattle.lane_queue.specs.declared.order.Order.{Order}
use Rattle.lane_queue.specs.Lanes.{AreWhole, PassValue, depths_of, one_each, puts_of, takes_of}
use Rattle.lane_queue.specs.Orders.{Settles}
use Rattle.job_threads.specs.Closing.{AreCounted, IsHandedOver}

-- two halves are the whole lane
halves : (a b : ℕ) → a ≡ 1 → b ≡ 1 → AreWhole (a ∷ b ∷ [])
halves a b one other =
    subst (λ (n : ℕ). AreWhole (n ∷ b ∷ [])) (sym one)
    (subst (λ (n : ℕ). AreWhole (1 ∷ n ∷ [])) (sym other)
    (record { most = 1; within = (omega arith, (omega arith, tt)); sum = refl }))

-- so what two halves know settles
pub handed_over : (our their : PassValue) (passes : List PassValue) (left : List Order) →
    passes ≡ our ∷ their ∷ [] → our.depth ≡ 1 → their.depth ≡ 1 →
    (AreWhole (depths_of passes) → Settles (one_each passes) (puts_of passes) (takes_of passes) left) →
    IsHandedOver our their
handed_over our their passes left is one other settles = (
  left,
  subst
      (λ (ps : List PassValue).
      AreWhole (depths_of ps) → Settles (one_each ps) (puts_of ps) (takes_of ps) left)
      is settles (halves our.depth their.depth one other),
)

-- what is said of all readers is said of the one
pub counted : (seats : List SeatValue) (reader : ReaderValue) (readers : List ReaderValue)
    (counts : List ℕ) → readers ≡ reader ∷ [] →
    ((w : ℕ) → w < 1024 → slice_index counts w ≡ beats_by w seats) →
    ((w : ℕ) → w < 1024 → AreToldOnce w (slice_index counts w) seats) →
    All (λ (r : ReaderValue). AreWithin counts r.looks) readers → AreCounted seats reader
counted seats reader readers counts is sums told seen = record {
  counts = counts;
  sums = sums;
  told = told;
  seen = All-head (λ (r : ReaderValue). AreWithin counts r.looks) reader []
      (subst (All (λ (r : ReaderValue). AreWithin counts r.looks)) is seen);
}

-- the last element moves to what was taken
pub moved : {A : Type 0} (all before after taken : List A) (x : A) → all ≡ before ++ taken →
    before ≡ after ++ x ∷ [] → all ≡ after ++ x ∷ taken
moved all before after taken x is last =
    is ∙ ap (λ (l : List _). l ++ taken) last ∙ append_assoc after (x ∷ []) taken

-- the element behind a front
pub behind : {A : Type 0} (all front rest : List A) (x : A) → all ≡ front ++ x ∷ rest →
    slice_get all (length front) ≡ Some x
behind all front rest x is =
    let long : length all ≡ length front + length (x ∷ rest) = ap length is ∙ length-append front (x ∷ rest) in
    slice_get_read all (length all) (length front) x refl (omega (arith, long))
    (sym (ap (λ (l : List _). get_or l (length front) x) is ∙ get_or-append_seam front x rest x))
