use Rattle.std.proofs.Common.{◌≡◌, length, take, map}
use Rattle.std.specs.Prelude.{vec_capacity, vec_len}
use Rattle.master_state.specs.Tests.{is_pending}
use Rattle.master_tables.specs.Entries.{shown_as}
use Rattle.master_core.proofs.lists.pending_flags.Given as goal

abbrev pub invariant-loop-entry : goal.invariant-loop-entry
invariant-loop-entry l = record {
  items : l.flags.items ≡ map is_pending (map shown_as (take l.entry-index l.entries));
  len : vec_len l.flags ≡ l.entry-index;
  room : vec_capacity l.flags ≡ length l.entries;
}
