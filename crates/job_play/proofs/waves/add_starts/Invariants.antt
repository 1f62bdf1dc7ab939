use Rattle.std.proofs.Common.{◌≡◌, ◌+◌, ◌++◌, length, drop, string_bytes}
use Rattle.job_play.specs.Reports.{started_lines}
use Rattle.job_play.proofs.waves.add_starts.Given as goal

-- the lines so far, and the lines of the rest of the starts, are the lines of all starts
abbrev pub invariant-loop-pair : goal.invariant-loop-pair
invariant-loop-pair l = record {
  room : l.attempt + length (drop l.pair-index l.pairs) ≡ l.fn.first + length l.pairs;
  whole : string_bytes l.lines ++ started_lines l.names l.attempt (drop l.pair-index l.pairs)
      ≡ string_bytes l.initial.lines ++ started_lines l.names l.fn.first l.pairs;
}
