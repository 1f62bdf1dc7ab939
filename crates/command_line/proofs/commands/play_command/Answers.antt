use Rattle.command_line.proofs.commands.play_command.Goals as goal

pub returns : goal.returns
returns c =
    let with_quiet = c.with_arg-command.ensures _ _ c.command_of.ensures
    c.flag_of.ensures.rule c.flag_of.ensures.local in
    c.with_arg.ensures _ _ with_quiet c.flag_of-2.ensures.rule c.flag_of-2.ensures.local
