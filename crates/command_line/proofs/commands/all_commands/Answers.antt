use Rattle.std.proofs.Common.{◌≡◌, refl, rules}
use Rattle.clap.specs.Words.{app_of}
use Rattle.command_line.specs.Commands.{check, explain, play, plan, program, run, serve}
use Rattle.command_line.proofs.commands.all_commands.Goals as goal

pub returns : goal.returns
returns c =
    let is_program : app_of c.subcommand_required-commands.result ≡ program = search rules in
    let with_check = c.with_command-commands.ensures program check is_program c.check_command.ensures refl in
    let with_plan = c.with_command-commands-2.ensures _ plan with_check c.plan_command.ensures refl in
    let with_play = c.with_command-commands-3.ensures _ play with_plan c.play_command.ensures refl in
    let with_serve = c.with_command-commands-4.ensures _ serve with_play c.serve_command.ensures refl in
    let with_run = c.with_command-commands-5.ensures _ run with_serve c.run_command.ensures refl in
    c.with_command.ensures _ explain with_run c.explain_command.ensures refl
