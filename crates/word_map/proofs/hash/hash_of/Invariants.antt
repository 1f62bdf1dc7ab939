use Rattle.std.proofs.Common.{◌≡◌, ◌<◌, ◌^◌, take}
use Rattle.word_map.specs.Words.{hash_of}
use Rattle.word_map.proofs.hash.hash_of.Given as goal

abbrev pub invariant-loop-byte : goal.invariant-loop-byte
invariant-loop-byte l = record {
  hash : l.hash ≡ hash_of (take l.byte-index l.byte-items);
  small : l.hash < 2 ^ 32;
}
