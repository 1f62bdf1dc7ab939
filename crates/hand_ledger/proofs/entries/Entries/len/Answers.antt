use Rattle.std.proofs.Common.{arith}
use Rattle.hand_ledger.proofs.Entering.{sizes_are}
use Rattle.hand_ledger.proofs.entries.Entries.len.Goals as goal

pub returns : goal.returns
returns c =
    let sizes = sizes_are _ _ _ _ c.self.view_is c.self.invariant.0 in
    omega (arith, c.len.ensures, sizes.places, c.self.inside.places.ok.0)
