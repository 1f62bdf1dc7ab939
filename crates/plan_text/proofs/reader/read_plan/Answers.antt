use Rattle.line_rules.specs.declared.purpose.Purpose.TheVariants.{Checking}
use Rattle.plan_text.proofs.Tidy.{tidy-read}
use Rattle.plan_text.proofs.reader.read_plan.Goals as goal

pub new-rows-requires : goal.new-rows-requires
new-rows-requires c = tidy-read Checking c.args.text.now c.in_ok-known.known c.in_ok-known.ensures.ok
