use Rattle.std.proofs.Common.{◌≡◌, ◌∙◌, ap, arith, unwrap_or}
use Rattle.plan_text.specs.Names.{names_of}
use Rattle.plan_text.specs.Value.{number_in}
use Rattle.plan_text.proofs.Numbers.{number_within}
use Rattle.plan_text.proofs.tidy_rows.TidyRows.declared.Goals as goal

pub returns-clause-within : goal.returns-clause-within
returns-clause-within c =
    let names = names_of c.args.keyword c.args.self.now in
    let is : c.unwrap_or.result ≡ number_in names c.args.name.now =
    c.unwrap_or.ensures ∙ ap (λ o. unwrap_or o 0) c.number.ensures in
    omega (arith, is, number_within names c.args.name.now c.requires.known)
