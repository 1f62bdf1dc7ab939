use Rattle.std.proofs.Common.{List, ap, subst}
use Rattle.hand_ledger.specs.Hands.{HandValue, Kept}
use Rattle.hand_ledger.specs.Marks.{AreNonePast}
use Rattle.hand_ledger.proofs.Marking.{none_past}
use Rattle.hand_ledger.proofs.keeping.Hand.greatest_place.Goals as goal

pub returns-clause-calls : goal.returns-clause-calls
returns-clause-calls g c =
    let h = c.self.inside in
    subst (λ (calls : List Kept). AreNonePast c.greatest_place.result calls)
    (ap (λ (v : HandValue). v.calls) c.self.view_is)
    (none_past h.entries.items h.counts.items h.starts.items c.greatest_place.ensures.entries)
