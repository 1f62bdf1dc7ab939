use Rattle.std.proofs.Common.{◌≡◌, length, sym, ap, ◌∙◌, arith}
use Rattle.std.proofs.lemmas.Grind.{common_steps}
use Rattle.std.proofs.lemmas.List.{take_all, take_more_same}
use Rattle.compact_lists.proofs.Counting.{length-from}
use Rattle.compact_lists.proofs.counts.Counts.is_same.Goals as goal

pub returns-then-self-other : goal.returns-then-self-other
returns-then-self-other c =
    let mine = sym (length-from c.self.inside.base.now c.self.inside.rises.now c.self.invariant)
    ∙ ap length c.self.view_is in
    let its = sym (length-from c.other.inside.base.now c.other.inside.rises.now c.other.invariant)
    ∙ ap length c.other.view_is in
    grind (
      arith,
      common_steps,
      λ (same : c.args.self.now ≡ c.args.other.now). mine ∙ ap (λ counts. length counts) same ∙ sym its,
    )

pub loop-worker-preserved : goal.loop-worker-preserved
loop-worker-preserved c =
    let mine = sym (length-from c.self.inside.base.now c.self.inside.rises.now c.self.invariant)
    ∙ ap length c.self.view_is in
    let its = sym (length-from c.other.inside.base.now c.other.inside.rises.now c.other.invariant)
    ∙ ap length c.other.view_is in
    take_more_same c.args.self.now c.args.other.now c.loop-worker.worker 0 (search (arith, mine))
    (search (arith, mine, its)) c.loop-worker.invariant (search arith)

pub returns : goal.returns
returns c =
    let mine = sym (length-from c.self.inside.base.now c.self.inside.rises.now c.self.invariant)
    ∙ ap length c.self.view_is in
    let its = sym (length-from c.other.inside.base.now c.other.inside.rises.now c.other.invariant)
    ∙ ap length c.other.view_is in
    let n = c.loop-worker.worker in
    let same = sym (take_all n c.args.self.now (search (arith, mine))) ∙ c.loop-worker.invariant
    ∙ take_all n c.args.other.now (search (arith, mine, its)) in
    grind (arith, common_steps, same)
