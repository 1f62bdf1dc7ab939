use Rattle.std.proofs.Common.{◌++◌, ◌≡◌, slice_index_or, string_bytes}
use Rattle.std.specs.List.{flat_map, range_with_len}
use Rattle.master_state.specs.declared.states.SplitState.TheVariants.{Pending}
use Rattle.report_lines.specs.Standing.{output_of}
use Rattle.report_lines.proofs.standing.add_outputs.Given as goal

abbrev pub invariant-loop-number : goal.invariant-loop-number
invariant-loop-number l =
    string_bytes l.lines ≡ string_bytes l.initial.lines
    ++ flat_map (λ s. output_of l.splits l.workers s (slice_index_or l.states s Pending)) (range_with_len 0 l.number)
