-- The splits of a wave that wait for a start.
use Rattle.std.specs.Prelude.{ℕ, zero, suc, cond, List, [], ◌∷◌, ◌++◌, length}
use Rattle.wave_problem.specs.Wave.{Wave, split_at}

-- the pending splits below a number, and all of them, rising
abbrev pub pending_below : Wave → ℕ → List ℕ
pending_below wave zero = []
pending_below wave (suc n) = cond (split_at wave n).pending (pending_below wave n ++ n ∷ [])
    (pending_below wave n)

abbrev pub pending_splits : Wave → List ℕ
pending_splits wave = pending_below wave (length wave.splits)
