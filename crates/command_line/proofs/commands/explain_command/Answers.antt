use Rattle.command_line.proofs.commands.explain_command.Goals as goal

pub returns : goal.returns
returns c =
    let with_kind = c.with_arg-command.ensures _ _ c.command_of.ensures
    c.word_of.ensures.rule c.word_of.ensures.local in
    c.with_arg.ensures _ _ with_kind c.word_of-2.ensures.rule c.word_of-2.ensures.local
