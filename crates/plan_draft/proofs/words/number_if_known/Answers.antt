use Rattle.std.proofs.Common.{ℕ, List, ◌≡◌, Option, None, Some, ap, is_some, subst, unwrap_or}
use Rattle.std.specs.List.{position}
use Rattle.std.specs.Option.{IfSome}
use Rattle.std.specs.Str.{bytes_eq}
use Rattle.text_lines.specs.Texts.{Word}
use Rattle.plan_text.specs.Value.{number_in, stands_in}
use Rattle.plan_text.proofs.Numbers.{stands_by}
use Rattle.plan_draft.proofs.words.number_if_known.Goals as goal

-- a place that was found is the number of the name
number_of_place : (names : List Word) (name : Word) (o : Option ℕ) → o ≡ position (λ n. bytes_eq name n) names
    → IfSome o (λ n. n ≡ number_in names name)
number_of_place names name None is = tt
number_of_place names name (Some n) is = ap (λ (o : Option ℕ). unwrap_or o 0) is

pub returns-clause-stands : goal.returns-clause-stands
returns-clause-stands c =
    let names = c.args.names.now in
    subst (λ (name : Word). is_some c.number.result ≡ stands_in names name) c.word_in.ensures
    (stands_by (is_some c.number.result) names c.word_in.result.now c.number.ensures.known)

pub returns-clause-number : goal.returns-clause-number
returns-clause-number c =
    let names = c.args.names.now in
    subst (λ (name : Word). IfSome c.number.result (λ n. n ≡ number_in names name)) c.word_in.ensures
    (number_of_place names c.word_in.result.now c.number.result c.number.ensures.number)
