use Rattle.std.proofs.Common.{◌≡◌, ◌+◌, ◌≤◌, length}
use Rattle.node_ids.specs.Updates.{updated}
use Rattle.block_map.specs.Holdings.{holders_of}
use Rattle.master_tables.specs.Ends.{without_all}
use Rattle.master_tables.proofs.deaths.drop_from.Given as goal

-- each turn takes a holder away
abbrev pub invariant-loop-turn : goal.invariant-loop-turn
invariant-loop-turn l =
    record {
      same : length l.holders ≡ length l.fn.holders;
      dropped : updated (without_all l.dead) l.holders l.split
          ≡ updated (without_all l.dead) l.fn.holders l.split;
      fewer : length (holders_of l.holders l.split) + l._turn ≤ length (holders_of l.fn.holders l.split);
    }
