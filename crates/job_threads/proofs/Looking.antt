-- Looks at the workers, one number after another.
use Rattle.std.proofs.Common.{◌≡◌, ℕ, ◌<◌, ◌≤◌, List, refl, arith}
use Rattle.std.specs.Prelude.{slice_index}
use Rattle.beat_board.specs.declared.view.Look.{Look}
use Rattle.beat_board.specs.Values.{last_seen}

-- after the looks at the workers below n: what is known of those, and of the others
pub record AreSoFar (first : List Look) (n : ℕ) (counts : List ℕ) (looks : List Look) : Type 0 where
  pub seen : (w : ℕ) → w < n → slice_index counts w ≡ last_seen w looks
  pub rising : (w : ℕ) → w < n → last_seen w first ≤ slice_index counts w
  pub later : (w : ℕ) → n ≤ w → last_seen w looks ≡ last_seen w first

-- before the first look
pub so_far_none : (first : List Look) (counts : List ℕ) → AreSoFar first 0 counts first
so_far_none first counts = record {
  seen = λ w below. absurd (omega (arith, below));
  rising = λ w below. absurd (omega (arith, below));
  later = λ w past. refl;
}
