use Rattle.std.proofs.Common.{length, ap, arith}
use Rattle.compact_lists.proofs.Counting.{length-over}
use Rattle.compact_lists.proofs.counts.CountList.len.Goals as goal

pub returns-clause-count : goal.returns-clause-count
returns-clause-count c =
    let l = c.self.inside in
    let all = length-over l.bases.rows l.bases_of.items l.rises.rows c.self.invariant.rises in
    search (arith, all, ap (λ v. length v.items) c.self.view_is)
