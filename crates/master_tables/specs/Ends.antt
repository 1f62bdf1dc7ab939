-- Which attempts end.
use Rattle.std.specs.Prelude.{ℕ, Bool, List, filter, not}
use Rattle.node_ids.specs.Sets.{is_in_row}
use Rattle.master_state.specs.declared.states.Attempt.{Attempt}
use Rattle.master_state.specs.Tests.{is_numbered, is_on}
use Rattle.master_tables.specs.declared.running.Ending.{Ending}
use Rattle.master_tables.specs.declared.running.Ending.TheVariants.{Among, Numbered, On}

-- whether the attempt ends
abbrev pub ends : Ending → Attempt → Bool
ends (Numbered a) attempt = is_numbered a attempt
ends (On w) attempt = is_on w attempt
ends (Among dead) attempt = is_in_row dead attempt.worker

-- the holders that are not in the list
abbrev pub without_all : List ℕ → List ℕ → List ℕ
without_all dead holders = filter (λ h. not (is_in_row dead h)) holders
