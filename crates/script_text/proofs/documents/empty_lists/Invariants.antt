use Rattle.std.proofs.Common.{[], ◌≡◌, replicate}
use Rattle.script_text.proofs.Gathering.{items_of}
use Rattle.script_text.proofs.documents.empty_lists.Given as goal

abbrev pub invariant-loop : goal.invariant-loop
invariant-loop l = items_of l.lists.items ≡ replicate l.counter []
