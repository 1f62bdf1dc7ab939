use Rattle.std.proofs.Common.{◌++◌, ◌≡◌, slice_index_or, string_bytes}
use Rattle.std.specs.List.{flat_map, range_with_len}
use Rattle.master_state.specs.declared.states.PartState.TheVariants.{Pending}
use Rattle.report_lines.specs.Standing.{open_part}
use Rattle.report_lines.proofs.standing.add_open_parts.Given as goal

abbrev pub invariant-loop-number : goal.invariant-loop-number
invariant-loop-number l =
    string_bytes l.lines ≡ string_bytes l.initial.lines
    ++ flat_map (λ r. open_part l.workers r (slice_index_or l.states r Pending)) (range_with_len 0 l.number)
