use Rattle.std.proofs.Common.{rules, ◌≡◌, ℕ, List, IsTrue, subst, sym}
use Rattle.std.proofs.lemmas.Bool.{eqb-true, eq-eqb}
use Rattle.std.proofs.lemmas.Slice.Eq.{slice_eq-Decides}
use Rattle.node_ids.proofs.sets.SplitRow.is_same.Goals as goal

pub returns : goal.returns
returns c = rw (sym c.self.view_is, sym c.other.view_is) (slice_eq-Decides (λ a b. (eqb-true a b, eq-eqb a b))
    c.self.inside.splits.now c.other.inside.splits.now c.eq.result c.eq.ensures)
