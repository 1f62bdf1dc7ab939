use Rattle.std.proofs.Common.{◌++◌, ◌∙◌, [], ap, not, refl, rules, if◌then◌else◌, string_bytes}
use Rattle.master_state.specs.Tests.{is_done}
use Rattle.report_lines.specs.Lines.{open_line}
use Rattle.report_lines.proofs.NumberedRows.{rows_more}
use Rattle.report_lines.proofs.endings.add_stuck.Goals as goal

pub loop-number-preserved : goal.loop-number-preserved
loop-number-preserved c =
    let line = open_line c.args.splits.now in
    let now = string_bytes c.loop-number.lines in
    rows_more (λ s state. if not (is_done state) then line s else []) c.args.states.now _ _ _ _ _ _ _
    c.index-states-number.is refl c.loop-number.invariant
    (c.in_ok-add_open.ensures
    ∙ ap (λ b. now ++ (if b then line c.loop-number.number else [])) c.is_open.ensures) (search rules)
