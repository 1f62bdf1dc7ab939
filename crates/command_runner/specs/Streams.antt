-- What a failed stream is to a command.
use Rattle.text_lines.specs.declared.streams.ReadError.{ReadError}
use Rattle.text_lines.specs.declared.streams.ReadError.TheVariants as reading
use Rattle.command_runner.specs.declared.tool_error.ToolError.{ToolError}
use Rattle.command_runner.specs.declared.tool_error.ToolError.TheVariants.{Memory, Read}

abbrev pub error_of_reading : ReadError → ToolError
error_of_reading reading.Memory = Memory
error_of_reading reading.Read = Read
