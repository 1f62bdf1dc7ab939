use Rattle.std.proofs.Common.{ℕ, ◌<◌, Ok, Err, Result}
use Rattle.std.specs.Result.{OkIff, result_ok}
use Rattle.std.specs.Option.{SomeIff}
use Rattle.std.proofs.lemmas.Str.Parse.{parse_digits}
use Rattle.text_lines.proofs.Numerals.{numerals}
use Rattle.text_lines.proofs.number.value_of.Goals as goal

some_number : {E : Type 0} (r : Result ℕ E) (len n : ℕ) (P : Type 0) → 0 < len
    → OkIff r ((0 < len) × P) n → SomeIff (result_ok r) P n
some_number (Ok x) len n P lt h = (h.0.1, h.1)
some_number (Err e) len n P lt h = λ p. h (lt, p)

pub returns : goal.returns
returns c =
    let parsed = parse_digits numerals 64 c.args.digits.now _ c.parse.ensures.value.0 c.requires.0 in
    rw c.ok.ensures.value (some_number _ _ _ _ c.requires.1 parsed)
