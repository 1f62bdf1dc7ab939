use Rattle.std.proofs.Common.{◌≡◌, take}
use Rattle.std.specs.Prelude.{vec_capacity, vec_len}
use Rattle.job_play.proofs.ending.states_of.Given as goal

abbrev pub invariant-loop-number : goal.invariant-loop-number
invariant-loop-number l = record {
  items : l.states.items ≡ take l.number l.master.state.splits;
  len : vec_len l.states ≡ l.number;
  room : vec_capacity l.states ≡ l.count;
}
