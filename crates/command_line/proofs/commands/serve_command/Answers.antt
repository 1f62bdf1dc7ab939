use Rattle.command_line.proofs.commands.serve_command.Goals as goal

pub returns : goal.returns
returns c =
    c.with_arg.ensures _ _ c.command_of.ensures c.flag_of.ensures.rule c.flag_of.ensures.local
