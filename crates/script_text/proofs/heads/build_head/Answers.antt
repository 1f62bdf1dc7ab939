use Rattle.std.proofs.Common.{arith, refl}
use Rattle.line_shapes.specs.declared.keyword.Keyword.TheVariants.{Parts, Silence}
use Rattle.line_rules.specs.Known.{rows_of}
use Rattle.script_text.proofs.Fits.{fit_head}
use Rattle.script_text.proofs.Lines.{are_settings, parts_within, silence_within, told_within}
use Rattle.script_text.proofs.heads.build_head.Goals as goal

pub setting_of-parts-requires : goal.setting_of-parts-requires
setting_of-parts-requires c =
    let rows = c.args.rows.now in
    are_settings 1 64 (rows_of Parts rows) (omega arith) (parts_within rows c.are_tidy.ensures)

pub setting_of-silence-requires : goal.setting_of-silence-requires
setting_of-silence-requires c =
    let rows = c.args.rows.now in
    are_settings 1 1000 (rows_of Silence rows) (omega arith) (silence_within rows c.are_tidy.ensures)

pub overflow_cast-silence : goal.overflow_cast-silence
overflow_cast-silence c =
    let rows = c.args.rows.now in
    let within = silence_within rows c.are_tidy.ensures in
    let told = told_within 1 1000 3 (rows_of Silence rows) within (omega arith) (omega arith) in
    omega (arith, c.setting_of-silence.ensures, told.1)

pub returns-clause-fit : goal.returns-clause-fit
returns-clause-fit c =
    fit_head c.args.version c.args.rows.now c.are_tidy.ensures _ (record {
      version = refl;
      tree = c.in_ok-tree.ensures;
      slots = c.in_ok-slots.ensures;
      splits = c.in_ok-splits.ensures;
      texts = c.in_ok-texts.ensures;
      parts = c.setting_of-parts.ensures;
      silence = c.setting_of-silence.ensures;
    }) c.requires
