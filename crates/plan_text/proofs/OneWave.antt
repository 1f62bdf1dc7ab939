-- The waves that the same rows make differ only in how the set of barred pairs is kept.
use Rattle.std.proofs.Common.{List, ◌≡◌, ◌∙◌, sym}
use Rattle.wave_problem.specs.Wave.{Wave, wave_from}
use Rattle.price_certificate.proofs.SameBars.{HaveSamePairs}
use Rattle.line_shapes.specs.Lines.{Statement}
use Rattle.plan_text.specs.Value.{MakesWave}

pub same_parts : (rows : List Statement) (v w : Wave) → MakesWave rows v → MakesWave rows w
    → w ≡ record v { barred = w.barred }
same_parts rows v w a b =
    let tree : w.tree ≡ v.tree = b.tree ∙ sym a.tree in
    let workers : w.workers ≡ v.workers = b.workers ∙ sym a.workers in
    let splits : w.splits ≡ v.splits = b.splits ∙ sym a.splits in
    λ i. wave_from (tree i) (workers i) (splits i) w.barred

pub same_bars : (rows : List Statement) (v w : Wave) → MakesWave rows v → MakesWave rows w
    → HaveSamePairs v.barred w.barred
same_bars rows v w a b s n = (
  λ has. (b.barred s n).1 ((a.barred s n).0 has),
  λ has. (a.barred s n).1 ((b.barred s n).0 has),
)
