use Rattle.line_rules.specs.declared.purpose.Purpose.TheVariants.{Planning}
use Rattle.plan_text.proofs.Read.{all_fit}
use Rattle.plan_text.proofs.Tidy.{tidy-read}
use Rattle.plan_text.proofs.reader.read_problem.Goals as goal

pub new-rows-requires : goal.new-rows-requires
new-rows-requires c = tidy-read Planning c.args.text.now c.in_ok-known.known c.in_ok-known.ensures.ok

pub returns-clause-fit : goal.returns-clause-fit
returns-clause-fit c = all_fit Planning c.args.text.now c.in_ok-known.known c.in_ok-known.ensures.ok
