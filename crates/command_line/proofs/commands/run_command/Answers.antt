use Rattle.command_line.proofs.commands.run_command.Goals as goal

pub returns : goal.returns
returns c =
    let with_ahead = c.with_arg-command.ensures _ _ c.command_of.ensures
    c.option_of.ensures.rule c.option_of.ensures.local in
    let with_history = c.with_arg-command-2.ensures _ _ with_ahead
    c.flag_of.ensures.rule c.flag_of.ensures.local in
    let with_quiet = c.with_arg-command-3.ensures _ _ with_history
    c.flag_of-2.ensures.rule c.flag_of-2.ensures.local in
    c.with_arg.ensures _ _ with_quiet c.flag_of-3.ensures.rule c.flag_of-3.ensures.local
