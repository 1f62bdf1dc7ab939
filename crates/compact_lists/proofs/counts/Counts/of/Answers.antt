use Rattle.std.proofs.Common.{slice_index_or, length, sym, ap, ◌∙◌, arith}
use Rattle.std.proofs.lemmas.List.{get_or_past}
use Rattle.compact_lists.proofs.Counting.{from_at, length-from}
use Rattle.compact_lists.proofs.counts.Counts.of.Goals as goal

pub returns-then-worker-self : goal.returns-then-worker-self
returns-then-worker-self c =
    let own = c.self.inside in
    sym (from_at own.base.now own.rises.now c.args.worker 0 0 c.self.invariant (search arith))
    ∙ ap (λ counts. slice_index_or counts c.args.worker 0) c.self.view_is

pub returns-else-worker-self : goal.returns-else-worker-self
returns-else-worker-self c =
    let own = c.self.inside in
    let past = get_or_past c.args.self.now c.args.worker 0
    (search (arith, length-from own.base.now own.rises.now c.self.invariant, ap length c.self.view_is)) in
    sym past
