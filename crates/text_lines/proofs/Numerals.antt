-- Words of digits, as std reads and writes numbers.
use Rattle.std.proofs.Common.{rules, arith, suc}
use Rattle.std.specs.List.{All}
use Rattle.std.proofs.lemmas.List.Elements.{All-cons}
use Rattle.std.proofs.lemmas.Str.Parse.{IsDigitsTest, IsNumeralModel, numerals_by_fold}
use Rattle.text_lines.specs.Texts.{IsDigit, number_from, number_of}

digits : IsDigitsTest (All IsDigit)
digits = record {
  empty = search rules;
  parts = λ c cs h. (h 0 0 (omega arith), λ k d lt. h (suc k) d (omega arith));
  more = λ c cs one h. All-cons IsDigit c cs one h;
}

pub numerals : IsNumeralModel (All IsDigit) number_of
numerals = numerals_by_fold _ digits number_from (search rules)
