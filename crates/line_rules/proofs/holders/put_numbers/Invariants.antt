use Rattle.std.proofs.Common.{◌≡◌, ◌≤◌, length, map, take, vec_capacity}
use Rattle.std.specs.List.{All}
use Rattle.line_rules.specs.Holders.{AreNumbersOf, IsWorker}
use Rattle.line_rules.proofs.holders.put_numbers.Given as goal

abbrev pub invariant-loop-i : goal.invariant-loop-i
invariant-loop-i l = record {
  numbers : AreNumbersOf l.rows (map (λ n. n.now) (take l.i l.names)) l.numbers.items;
  held : All (IsWorker l.rows) (map (λ n. n.now) (take l.i l.names));
  room : length l.names ≤ vec_capacity l.numbers;
  count : length l.numbers.items ≡ l.i;
}
