-- The statuses with which the program exits, and its words on standard error.
use Rattle.std.specs.Prelude.{ℕ, List, [], ◌++◌, Option, Some, None, Ok, Err, codes}
use Rattle.std.specs.Fmt.{decimal}
use Rattle.std.specs.declared.result.Result.{Result}
use Rattle.clap.specs.Words.{kind_of}
use Rattle.clap.specs.declared.error.kind.ErrorKind.{ErrorKind}
use Rattle.clap.specs.declared.error.kind.ErrorKind.TheVariants.{DisplayHelp, DisplayVersion}
use Rattle.command_line.specs.declared.asked.AskError.{AskError}
use Rattle.command_line.specs.declared.asked.AskError.TheVariants as asked
use Rattle.command_runner.specs.declared.tool_error.ToolError.{ToolError}
use Rattle.command_runner.specs.declared.tool_error.ToolError.TheVariants.{HistoryFull, Memory, Read, Text}
use Rattle.command_runner.specs.declared.tool_error.ToolError.TheVariants.{Write}
use Rattle.tools.specs.declared.program_end.CheckEnd.{CheckEnd}
use Rattle.tools.specs.declared.program_end.CheckEnd.TheVariants as check
use Rattle.tools.specs.declared.program_end.Ending.{Ending}
use Rattle.tools.specs.declared.program_end.Ending.TheVariants.{Failed, GateLimit, Left, Misused, NoThread}
use Rattle.tools.specs.declared.program_end.Ending.TheVariants.{PastNetwork, Refused, Stuck, Torn, Well}
use Rattle.tools.specs.declared.program_end.Message.{Message}
use Rattle.tools.specs.declared.program_end.PlanEnd.{PlanEnd}
use Rattle.tools.specs.declared.program_end.PlanEnd.TheVariants as plan

abbrev pub ending_of_check : Result CheckEnd ToolError → Ending
ending_of_check (Ok check.Certified) = Well
ending_of_check (Ok (check.Refused condition)) = Refused
ending_of_check (Err error) = Failed error

abbrev pub ending_of_plan : Result PlanEnd ToolError → Ending
ending_of_plan (Ok plan.Planned) = Well
ending_of_plan (Ok plan.PastNetwork) = PastNetwork
ending_of_plan (Err error) = Failed error

abbrev pub ending_of_explaining : Result (Unit {0}) ToolError → Ending
ending_of_explaining (Ok done) = Well
ending_of_explaining (Err error) = Failed error

-- help and the version were asked for; every other kind is wrong usage
abbrev pub ending_of_kind : ErrorKind → Ending
ending_of_kind DisplayHelp = Well
ending_of_kind DisplayVersion = Well
ending_of_kind _ = Misused

abbrev pub ending_of_asking : AskError → Ending
ending_of_asking (asked.Fault error) = ending_of_kind (kind_of error)
ending_of_asking asked.Memory = Failed Memory

abbrev pub status_of : Ending → ℕ
status_of Well = 0
status_of Refused = 1
status_of Stuck = 1
status_of (Failed (Text fault)) = 2
status_of (Failed Memory) = 3
status_of (Failed Read) = 4
status_of (Failed Write) = 4
status_of (Failed HistoryFull) = 5
status_of (Torn place) = 6
status_of NoThread = 6
status_of GateLimit = 6
status_of Misused = 64
status_of PastNetwork = 64
status_of Left = 141

-- the digits of a number that follows
abbrev pub digits_of : Option ℕ → List ℕ
digits_of None = []
digits_of (Some n) = decimal n

-- a message in full
abbrev pub told : Message → List ℕ
told message = message.words.now ++ digits_of message.number

abbrev pub message_of : Ending → Option (List ℕ)
message_of (Failed Memory) = Some (codes "mrjob: no memory")
message_of (Failed Read) = Some (codes "mrjob: read fault")
message_of (Failed Write) = Some (codes "mrjob: write fault")
message_of (Failed HistoryFull) = Some (codes "mrjob: history full")
message_of (Torn place) = Some (codes "mrjob: torn at " ++ decimal place)
message_of NoThread = Some (codes "mrjob: no thread")
message_of GateLimit = Some (codes "mrjob: gate limit")
message_of PastNetwork = Some (codes "mrjob: no direct network for so many splits or workers, or for prices of places")
message_of ending = None
