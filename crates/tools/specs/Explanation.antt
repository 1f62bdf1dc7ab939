-- What is written where the program is asked what a number means.
use Rattle.std.specs.Prelude.{ℕ, List, Err, Ok, Option}
use Rattle.std.specs.Io.KnownBytes.{Appends, Keeps}
use Rattle.std.specs.Option.{option_map}
use Rattle.std.specs.declared.result.Result.{Result}
use Rattle.explanations.specs.Table.{row_of, said, table}
use Rattle.explanations.specs.declared.table.Entry.{Entry}
use Rattle.text_lines.specs.Streams.{AppendsFront}
use Rattle.command_runner.specs.declared.tool_error.ToolError.{ToolError}
use Rattle.command_runner.specs.declared.tool_error.ToolError.TheVariants.{Memory, Write}

-- what the table says of an entry, or of all
abbrev pub explanation : Option Entry → List ℕ
explanation entry = said table (option_map row_of entry)

-- it was written; or nothing, for want of memory, or a front of it, where the writer failed
abbrev pub HasExplained : Option Entry → Option (List ℕ) → Option (List ℕ) → Result (Unit {0}) ToolError
    → Type 0
HasExplained entry old new (Ok done) = Appends old new (explanation entry)
HasExplained entry old new (Err Memory) = Keeps old new
HasExplained entry old new (Err Write) = AppendsFront old new (explanation entry)
HasExplained entry old new (Err error) = ⊥
