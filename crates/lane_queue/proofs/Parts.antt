-- The parts of a lane: a pass whose part was halved so often has 2 ^ -depth of it.
use Rattle.std.proofs.Common.{◌≡◌, ℕ, ◌+◌, ◌-◌, ◌*◌, ◌/◌, ◌^◌, ◌<◌, ◌≤◌, List, [], ◌∷◌, ◌++◌, length, refl}
use Rattle.std.proofs.Common.{sym, ap, ◌∙◌, arith, mul_comm}
use Rattle.std.proofs.lemmas.Nat.{pow-add, pow_pos}
use Rattle.std.proofs.lemmas.Grind.{common_steps}
use Rattle.std.proofs.Math.Nat.{mul-div_cancel_left}
use Rattle.std.proofs.lemmas.List.Sums.{sum_by-append, sum_by-cons, sum_by_push}
use Rattle.std.specs.List.{sum_by}
use Rattle.lane_queue.specs.Lanes.{AreAtMost, AreWhole}
use Rattle.lane_queue.specs.Steps.{deeper}

-- parts, counted in smaller parts
pub scale : (most k : ℕ) (ds : List ℕ) → AreAtMost most ds
    → sum_by (λ d. 2 ^ (most + k - d)) ds ≡ 2 ^ k * sum_by (λ d. 2 ^ (most - d)) ds
scale most k [] h = omega arith
scale most k (d ∷ ds) h =
    let less : d ≤ most = h.0 in
    let up : most + k - d ≡ k + (most - d) = omega arith in
    let here : 2 ^ (most + k - d) ≡ 2 ^ k * 2 ^ (most - d) = ap (λ n. 2 ^ n) up ∙ pow-add 2 k (most - d) in
    let rest = scale most k ds h.1 in
    let fs = sum_by-cons (λ e. 2 ^ (most + k - e)) d ds in
    let gs = sum_by-cons (λ e. 2 ^ (most - e)) d ds in
    rw (fs, gs) (omega (arith, here, rest))

cancel : (n x y : ℕ) → 0 < n → n * x ≡ n * y → x ≡ y
cancel n x y pos e = sym (mul-div_cancel_left x pos) ∙ ap (λ z. z / n) e ∙ mul-div_cancel_left y pos

-- parts that make up the whole do so however they are counted
pub whole_at : (depth : ℕ) (ds : List ℕ) → AreAtMost depth ds → AreWhole ds
    → sum_by (λ d. 2 ^ (depth - d)) ds ≡ 2 ^ depth
whole_at depth ds within w =
    let a = scale w.most depth ds w.within in
    let b = scale depth w.most ds within in
    let turn : w.most + depth ≡ depth + w.most = omega arith in
    let same = ap (λ n. sum_by (λ d. 2 ^ (n - d)) ds) turn in
    let e : 2 ^ w.most * sum_by (λ d. 2 ^ (depth - d)) ds ≡ 2 ^ w.most * 2 ^ depth =
    sym b ∙ sym same ∙ a ∙ ap (λ n. 2 ^ depth * n) w.sum ∙ mul_comm (2 ^ depth) (2 ^ w.most) in
    cancel (2 ^ w.most) (sum_by (λ d. 2 ^ (depth - d)) ds) (2 ^ depth) (pow_pos w.most) e

-- only no parts come to nothing
pub no_parts : (most : ℕ) (ds : List ℕ) → sum_by (λ d. 2 ^ (most - d)) ds ≡ 0 → ds ≡ []
no_parts most [] e = refl
no_parts most (d ∷ ds) e = grind (arith, common_steps, pow_pos, sum_by-cons)

-- each halved, and counted in halves
pub deeper_sum : (most : ℕ) (ds : List ℕ)
    → sum_by (λ d. 2 ^ (most + 1 - d)) (deeper ds) ≡ sum_by (λ d. 2 ^ (most - d)) ds
deeper_sum most [] = refl
deeper_sum most (d ∷ ds) = grind (arith, deeper_sum most ds, common_steps, sum_by-cons)

pub deeper_within : (most : ℕ) (ds : List ℕ) → AreAtMost most ds → AreAtMost (most + 1) (deeper ds)
deeper_within most [] h = tt
deeper_within most (d ∷ ds) h = let le = h.0 in (omega arith, deeper_within most ds h.1)

pub within_more : (most : ℕ) (ds : List ℕ) → AreAtMost most ds → AreAtMost (most + 1) ds
within_more most [] h = tt
within_more most (d ∷ ds) h = let le = h.0 in (omega arith, within_more most ds h.1)

pub within_both : (most : ℕ) (ds es : List ℕ) → AreAtMost most ds → AreAtMost most es
    → AreAtMost most (ds ++ es)
within_both most [] es h k = k
within_both most (d ∷ ds) es h k = (h.0, within_both most ds es h.1 k)

pub not_deeper : (ds : List ℕ) → deeper ds ≡ [] → ds ≡ []
not_deeper [] e = refl
not_deeper (d ∷ ds) e = absurd (omega (arith, ap length e))

within_shared : (most : ℕ) (before after : List ℕ) (d : ℕ) → AreAtMost most (before ++ d ∷ after)
    → (d ≤ most) × AreAtMost (most + 1) (before ++ (d + 1) ∷ (after ++ (d + 1) ∷ []))
within_shared most [] after d h =
    let le : d ≤ most = h.0 in
    let more : d + 1 ≤ most + 1 = omega arith in
    (le, (more, within_both (most + 1) after ((d + 1) ∷ []) (within_more most after h.1) (more, tt)))
within_shared most (b ∷ bs) after d h = grind (arith, within_shared most bs after d h.1)

-- where a pass is shared, the passes with the new one are as whole as before
pub shared_whole : (before after : List ℕ) (d : ℕ) → AreWhole (before ++ d ∷ after)
    → AreWhole (before ++ (d + 1) ∷ (after ++ (d + 1) ∷ []))
shared_whole before after d w =
    let m = w.most in
    let f : ℕ → ℕ = λ e. 2 ^ (m + 1 - e) in
    let within = within_shared m before after d w.within in
    let le : d ≤ m = within.0 in
    let was : sum_by f (before ++ d ∷ after) ≡ 2 ^ 1 * 2 ^ m =
    scale m 1 (before ++ d ∷ after) w.within ∙ ap (λ n. 2 ^ 1 * n) w.sum in
    let up : 2 ^ (m + 1) ≡ 2 ^ m * 2 ^ 1 = pow-add 2 m 1 in
    let whole : m + 1 - d ≡ (m - d) + 1 = omega arith in
    let half : m + 1 - (d + 1) ≡ m - d = omega arith in
    let two : f d ≡ 2 ^ (m - d) * 2 ^ 1 = ap (λ n. 2 ^ n) whole ∙ pow-add 2 (m - d) 1 in
    let one : f (d + 1) ≡ 2 ^ (m - d) = ap (λ n. 2 ^ n) half in
    let old = sum_by-append f before (d ∷ after) in
    let old_rest = sum_by-cons f d after in
    let new = sum_by-append f before ((d + 1) ∷ (after ++ (d + 1) ∷ [])) in
    let new_rest = sum_by-cons f (d + 1) (after ++ (d + 1) ∷ []) in
    let last = sum_by_push f after (d + 1) in
    grind arith
