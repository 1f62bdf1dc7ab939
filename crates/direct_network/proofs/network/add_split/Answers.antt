use Rattle.std.proofs.Common.{◌+◌, ◌*◌, sym, ◌∙◌, arith}
use Rattle.direct_network.proofs.Rows.{wait_step}
use Rattle.direct_network.proofs.network.add_split.Goals as goal

pub add_pairs-requires-clause-built : goal.add_pairs-requires-clause-built
add_pairs-requires-clause-built c = rw c.make_room.ensures c.requires.built

pub returns-in_ok-add : goal.returns-in_ok-add
returns-in_ok-add c = record {
  built =
      wait_step c.args.problem.now c.args.split (257 * c.args.split + 256)
      (257 * c.args.split + 257) c.add_pairs.new.network c.add.new.network
      (omega arith) c.requires.split (sym c.is_pending.ensures ∙ c.if-is_pending.true)
      c.in_ok-add_pairs.ensures.built
      c.in_ok-add.ensures;
}
