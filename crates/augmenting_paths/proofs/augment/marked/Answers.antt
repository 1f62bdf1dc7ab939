use Rattle.std.proofs.Common.{◌≡◌, ◌<◌, ℕ, List, length, get_or, take, true, ap, ◌∙◌, subst, length-set, arith}
use Rattle.std.proofs.Math.Seq.{take-length}
use Rattle.std.proofs.lemmas.List.{take_more}
use Rattle.augmenting_paths.specs.Shipping.{AreMarked}
use Rattle.augmenting_paths.proofs.Orders.{marks_more}
use Rattle.augmenting_paths.proofs.augment.marked.Goals as goal

pub loop-source-preserved : goal.loop-source-preserved
loop-source-preserved c =
    let source : ℕ = get_or c.args.sources.now c.loop-source.source-index 0 in
    let size = c.loop-source.invariant.size in
    let below = c.requires c.loop-source.source-index c.loop-source-test.true in
    let inside : source < length c.loop-source.marks.items = omega arith in
    record {
      size = length-set c.loop-source.marks.items source true ∙ c.loop-source.invariant.size;
      marks = rw (take_more c.args.sources.now c.loop-source.source-index 0 c.loop-source-test.true)
          (marks_more (take c.loop-source.source-index c.args.sources.now) c.loop-source.marks.items source
          inside
          c.loop-source.invariant.marks);
    }

pub returns-clause-marks : goal.returns-clause-marks
returns-clause-marks c =
    let past = c.loop-source-test.false in
    let most = c.loop-source.auto.source-index-end in
    let end : c.loop-source.source-index ≡ length c.args.sources.now = omega arith in
    subst (λ (xs : List ℕ). AreMarked xs c.loop-source.marks.items)
    (ap (λ n. take n c.args.sources.now) end ∙ take-length c.args.sources.now) c.loop-source.invariant.marks
