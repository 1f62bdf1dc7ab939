-- How the program ends that has played a script or run a job.
use Rattle.std.specs.Prelude.{Ok, Err}
use Rattle.std.specs.declared.result.Result.{Result}
use Rattle.command_runner.specs.declared.tool_error.ToolError.{ToolError}
use Rattle.command_runner.specs.declared.tool_error.ToolError.TheVariants as tool
use Rattle.job_threads.specs.declared.outcome.RunError.{RunError}
use Rattle.job_threads.specs.declared.outcome.RunError.TheVariants as broken
use Rattle.job_play.specs.declared.player.PlayEnd.{PlayEnd}
use Rattle.job_play.specs.declared.player.PlayEnd.TheVariants as play
use Rattle.job_run.specs.declared.running.RunEnd.{RunEnd}
use Rattle.job_run.specs.declared.running.RunEnd.TheVariants as run
use Rattle.job_run.specs.declared.running.RunTextError.{RunTextError}
use Rattle.job_run.specs.declared.running.RunTextError.TheVariants as error
use Rattle.tools.specs.declared.program_end.Ending.{Ending}
use Rattle.tools.specs.declared.program_end.Ending.TheVariants.{Failed, GateLimit, NoThread, Stuck, Torn, Well}

abbrev pub ending_of_play : Result PlayEnd ToolError → Ending
ending_of_play (Ok play.Done) = Well
ending_of_play (Ok play.Stuck) = Stuck
ending_of_play (Err error) = Failed error

-- a job that has no outcome
abbrev pub ending_of_error : RunError → Ending
ending_of_error broken.Memory = Failed tool.Memory
ending_of_error broken.HistoryFull = Failed tool.HistoryFull
ending_of_error (broken.Torn place) = Torn place
ending_of_error broken.NoThread = NoThread
ending_of_error broken.GateLimit = GateLimit

abbrev pub ending_of_run : Result RunEnd RunTextError → Ending
ending_of_run (Ok run.Done) = Well
ending_of_run (Ok run.Stuck) = Stuck
ending_of_run (Err (error.Tool why)) = Failed why
ending_of_run (Err (error.Run why)) = ending_of_error why
