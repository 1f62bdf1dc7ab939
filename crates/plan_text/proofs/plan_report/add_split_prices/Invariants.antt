use Rattle.std.proofs.Common.{◌++◌, ◌≡◌, string_bytes}
use Rattle.std.specs.List.{flat_map, range_with_len, slice_index}
use Rattle.plan_text.specs.Report.{price_line}
use Rattle.text_lines.specs.Texts.{name_of}
use Rattle.plan_text.proofs.plan_report.add_split_prices.Given as goal

abbrev pub invariant-loop-number : goal.invariant-loop-number
invariant-loop-number l =
    string_bytes l.lines ≡ string_bytes l.initial.lines
    ++ flat_map (λ n. price_line (name_of l.splits n) (slice_index l.prices.splits n))
    (range_with_len 0 l.number)
