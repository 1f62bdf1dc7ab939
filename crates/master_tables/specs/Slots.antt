-- The slots that attempts take.
use Rattle.std.specs.Prelude.{◌<◌, List, [], ◌∷◌, length, fold}
use Rattle.worker_table.specs.Workers.{Workers, taken_slots, with_slot_given}
use Rattle.master_state.specs.declared.states.Attempt.{Attempt}

-- the slot of each attempt given back
abbrev pub with_slots_given : Workers → List Attempt → Workers
with_slots_given t attempts = fold (λ table attempt. with_slot_given table attempt.worker) t attempts

-- each attempt takes a slot, also when those before it took theirs no more
abbrev pub AreTaken : Workers → List Attempt → Type 0
AreTaken t [] = Unit {0}
AreTaken t (attempt ∷ attempts) =
    (attempt.worker < length t.each) × (0 < taken_slots t attempt.worker)
    × AreTaken (with_slot_given t attempt.worker) attempts
