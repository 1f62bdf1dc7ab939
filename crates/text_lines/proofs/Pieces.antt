-- Piece by piece: what was read so far, and what was written so far.
use Rattle.std.proofs.Common.{ℕ, List, Option}
use Rattle.std.proofs.Common.{sym, subst, arith, append_assoc}
use Rattle.std.specs.Io.KnownBytes.{Consumes}
use Rattle.std.proofs.KnownBytes.{Appends-trans, Consumes-trans}
use Rattle.text_lines.specs.Streams.{Moves, Reads}

pub more : (a b c : Option (List ℕ)) (old new : List ℕ) → Consumes a b old → Reads b c old new
    → Consumes a c new
more a b c old new h r = subst (Consumes a c) (sym r.grown) (Consumes-trans a b c old r.bytes h r.consumed)

-- what was written so far, and then a piece more
pub moved_on : (old mid new : Option (List ℕ)) (text rest left : List ℕ)
    → Moves old mid text rest → Moves mid new rest left → Moves old new text left
moved_on old mid new text rest left a b = grind (arith, append_assoc, Appends-trans)
