use Rattle.std.proofs.Common.{◌∷◌, ◌++◌, ◌≡◌, slice_index_or, string_bytes}
use Rattle.std.specs.Fmt.{decimal}
use Rattle.std.specs.List.{flat_map, range_with_len}
use Rattle.report_lines.proofs.history.add_sweep.Given as goal

abbrev pub invariant-loop-number : goal.invariant-loop-number
invariant-loop-number l =
    string_bytes l.lines ≡ string_bytes l.initial.lines
    ++ flat_map (λ w. 32 ∷ decimal (slice_index_or l.counts w 0)) (range_with_len 0 l.number)
