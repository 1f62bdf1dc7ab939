use Rattle.command_line.proofs.commands.plan_command.Goals as goal

pub returns : goal.returns
returns c =
    let with_prices = c.with_arg-command.ensures _ _ c.command_of.ensures
    c.flag_of.ensures.rule c.flag_of.ensures.local in
    let with_network = c.with_arg-command-2.ensures _ _ with_prices
    c.network_option.ensures.rule c.network_option.ensures.local in
    c.with_arg.ensures _ _ with_network c.flag_of-2.ensures.rule c.flag_of-2.ensures.local
