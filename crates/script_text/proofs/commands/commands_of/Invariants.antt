use Rattle.std.proofs.Common.{ℕ, ◌≡◌, ◌<◌, length}
use Rattle.std.specs.Prelude.{slice_index_or}
use Rattle.line_shapes.specs.Lines.{Statement}
use Rattle.script_text.specs.Commands.{SaysCommand}
use Rattle.script_text.specs.declared.script.Command.{Command}
use Rattle.script_text.proofs.commands.commands_of.Given as goal

abbrev pub invariant-loop-place : goal.invariant-loop-place
invariant-loop-place l =
    (length l.commands.items ≡ l.place)
    × ((k : ℕ) (c : Command) → k < length l.commands.items
    → (s : Statement) →
    SaysCommand l.names (slice_index_or l.lines k s) (slice_index_or l.commands.items k c))
