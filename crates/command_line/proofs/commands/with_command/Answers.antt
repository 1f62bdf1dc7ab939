use Rattle.std.proofs.Common.{◌≡◌}
use Rattle.std.proofs.lemmas.Result.{IfOk-weaker}
use Rattle.clap.specs.Words.{app_of}
use Rattle.command_line.proofs.Build.{added}
use Rattle.command_line.proofs.commands.with_command.Goals as goal

pub returns : goal.returns
returns c program new old made plain =
    let old_is : app_of c.in_ok-commands.field-0 ≡ program = rw c.in_ok-commands.was at old in
    let new_is : app_of c.in_ok-command.field-0 ≡ new = rw c.in_ok-command.was at made in
    IfOk-weaker c.subcommand.result _ _ (λ after adds. added _ _ _ _ new adds old_is new_is plain)
    c.subcommand.ensures
