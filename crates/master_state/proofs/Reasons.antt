-- Where a call is not refused, none of its tests is true.
use Rattle.std.proofs.Common.{◌≡◌, ℕ, ◌+◌, ◌≤◌, List, [], ◌∷◌, length, Bool, true, false, None, refl, ap}
use Rattle.std.proofs.Common.{arith}
use Rattle.std.specs.Prelude.{is_some}
use Rattle.std.proofs.lemmas.Bool.{true≢false, leb-false}
use Rattle.master_state.specs.declared.answers.Why.{Why}
use Rattle.master_state.specs.States.{Setup, State}
use Rattle.master_state.specs.Refusals.{first_true, is_full, has_no_room, has_no_sweep}

-- each test is false
abbrev pub NoneApplies : List (Bool × Why) → Type 0
NoneApplies [] = Unit {0}
NoneApplies (reason ∷ others) = (reason.0 ≡ false) × NoneApplies others

pub none_applies : (reasons : List (Bool × Why)) → first_true reasons ≡ None → NoneApplies reasons
none_applies [] none = tt
none_applies ((true, why) ∷ others) none = absurd (true≢false (ap is_some none))
none_applies ((false, why) ∷ others) none = (refl, none_applies others none)

-- the rooms that are left
pub room_left : (setup : Setup) (s : State) → is_full setup s ≡ false → s.events + 1 ≤ setup.limits.events
room_left setup s full = omega (arith, leb-false setup.limits.events s.events full)

pub attempts_left : (setup : Setup) (s : State) (count : ℕ) → has_no_room setup s count ≡ false →
    (s.events + 1 ≤ setup.limits.events) × (length s.starts + count ≤ setup.limits.attempts)
attempts_left setup s count none = grind arith

pub sweep_left : (setup : Setup) (s : State) → has_no_sweep setup s ≡ false →
    (s.events + 1 ≤ setup.limits.events) × (length s.sweeps + 1 ≤ setup.limits.sweeps)
sweep_left setup s none = grind arith
