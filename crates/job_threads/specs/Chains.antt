-- Steps one after another.
use Rattle.std.specs.Prelude.{ℕ, ◌+◌, ◌≡◌, Bool, true, false}

-- a step for each number below n, the lowest first
pub data EachBelow {S : Type 0} (Step : ℕ → S → S → Type 0) : ℕ → S → S → Type 0 where
  no_step : {s : S} → EachBelow Step 0 s s
  one_more : {n : ℕ} {before between after : S} →
      EachBelow Step n before between → Step n between after → EachBelow Step (n + 1) before after

-- the step is made where the test holds; else nothing changes
abbrev pub OnlyIf : {S : Type 0} → Bool → (S → S → Type 0) → S → S → Type 0
OnlyIf true Step before after = Step before after
OnlyIf false Step before after = after ≡ before
