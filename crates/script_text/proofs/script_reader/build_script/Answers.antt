use Rattle.std.proofs.Common.{arith, subst, sym}
use Rattle.std.specs.List.{All}
use Rattle.line_shapes.specs.declared.keyword.Keyword.TheVariants.{Target}
use Rattle.line_rules.specs.Known.{rows_of}
use Rattle.script_text.specs.Ready.{IsWholeCommand}
use Rattle.script_text.specs.declared.script.Names.{Names}
use Rattle.script_text.proofs.Lines.{are_settings, target_within}
use Rattle.script_text.proofs.script_reader.build_script.Goals as goal

pub commands_of-requires-clause-ready : goal.commands_of-requires-clause-ready
commands_of-requires-clause-ready c =
    let is = c.in_ok-names.ensures in
    subst (λ (names : Names). All (IsWholeCommand names) c.args.lines.now)
    (λ i. record { workers = sym is.workers i; splits = sym is.splits i; documents = sym is.documents i })
    c.requires.ready

pub setting_of-requires : goal.setting_of-requires
setting_of-requires c =
    let rows = c.args.rows.now in
    are_settings 1 8 (rows_of Target rows) (omega arith) (target_within rows c.are_tidy.ensures)
