-- No turn had fewer events than the one before.
use Rattle.std.specs.Prelude.{ℕ, ◌≤◌, List, [], ◌∷◌}
use Rattle.report_lines.specs.ToldTurn.{ToldTurn}

-- the events of these turns lie between the two numbers, and do not fall
abbrev pub IsRising : ℕ → List ToldTurn → ℕ → Type 0
IsRising first [] last = first ≤ last
IsRising first (turn ∷ turns) last = (first ≤ turn.events) × IsRising turn.events turns last
