use Rattle.std.proofs.Common.{◌≤◌, vec_len}
use Rattle.std.specs.Io.KnownBytes.{Consumes}
use Rattle.text_lines.specs.Streams.{most_read_of}
use Rattle.text_lines.proofs.streams.read_text.Given as goal

-- what the reader lost is the text so far
abbrev pub invariant-loop : goal.invariant-loop
invariant-loop g l = record {
  lost : Consumes (g.R.Read.remaining l.initial.reader) (g.R.Read.remaining l.reader) l.text.items;
  few : vec_len l.text ≤ most_read_of l.text.items;
}
