-- What the marks of a split tell of the costs of its starts.
use Rattle.std.proofs.Common.{◌≡◌, ℕ, ◌*◌, ◌<◌, List, length, unwrap_or, refl}
use Rattle.rack_tree.specs.Tree.{Tree}
use Rattle.wave_problem.specs.Wave.{Wave, cost, live_holders, split_at}
use Rattle.wave_problem.proofs.Gathered.{least_near, steps_to}
use Rattle.direct_network.specs.declared.marks.Marks.{Marks}
use Rattle.direct_network.specs.Marks.{steps_from, Shows}

steps_shown : (tree : Tree) (live : List ℕ) (n w : ℕ) (marks : Marks) → Shows tree live n marks
    → steps_from tree n marks w ≡ steps_to tree w live
steps_shown tree live n w marks shown = rw (shown.workers w, shown.racks _, shown.centres _) refl

pub cost_shown : (wave : Wave) (s n w : ℕ) (marks : Marks) → 0 < length (live_holders wave s)
    → Shows wave.tree (live_holders wave s) n marks
    → unwrap_or (cost wave s w) 0 ≡ (split_at wave s).bytes * steps_from wave.tree n marks w
cost_shown wave s n w marks held shown =
    let live = live_holders wave s in
    rw (least_near wave.tree w live held, steps_shown wave.tree live n w marks shown) refl
