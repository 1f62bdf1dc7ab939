-- The splits that stand, found one by one.
use Rattle.std.proofs.Common.{ℕ, ◌+◌, ◌<◌, List, [], ◌∷◌, ◌++◌, All, Contains, arith}
use Rattle.std.specs.List.{AllPairs}
use borrow.Author.Count.{below_more}
use Rattle.std.proofs.lemmas.List.Elements.{All-push, Contains-append_left, Contains-push}
use Rattle.std.proofs.lemmas.List.Quantifiers.{all_pairs_push}
use Rattle.tree_flow.specs.State.{State}
use Rattle.tree_planner.specs.Handing.{HasStand}

-- these are the splits below n that stand
pub record AreStandingBelow (state : State) (n : ℕ) (splits : List ℕ) : Type 0 where
  pub rise : AllPairs (λ s t. s < t) splits
  pub below : All (λ s. s < n) splits
  pub each : All (HasStand state) splits
  pub all : (s : ℕ) → s < n → HasStand state s → Contains splits s

module _ (state : State) where
  module _ (n : ℕ) (splits : List ℕ) (h : AreStandingBelow state n splits) where
    below_next : All (λ s. s < n + 1) splits
    below_next = λ k d l. (let less = h.below k d l in omega arith)

    pub next_stands : HasStand state n → AreStandingBelow state (n + 1) (splits ++ n ∷ [])
    next_stands stands = record {
      rise = all_pairs_push (λ s t. s < t) splits n h.rise h.below;
      below = All-push (λ s. s < n + 1) splits n below_next (omega arith);
      each = All-push (HasStand state) splits n h.each stands;
      all = below_more (λ s. HasStand state s → Contains (splits ++ n ∷ []) s) n
          (λ s l there. Contains-append_left splits (n ∷ []) s (h.all s l there))
          (λ there. Contains-push splits n);
    }

    pub next_absent : (HasStand state n → ⊥) → AreStandingBelow state (n + 1) splits
    next_absent not = record {
      rise = h.rise;
      below = below_next;
      each = h.each;
      all = below_more (λ s. HasStand state s → Contains splits s) n h.all (λ there. absurd (not there));
    }
