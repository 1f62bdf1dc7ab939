use Rattle.std.proofs.Common.{◌≡◌, length, slice_get, slice_index_or, [], refl, sym, ap, ◌∙◌, arith, Some}
use Rattle.std.proofs.lemmas.Option.{get_or_from_slice_get, slice_get_past, slice_get_read}
use Rattle.compact_lists.specs.Counts.{counts_from}
use Rattle.compact_lists.proofs.Counting.{length-over, over_get}
use Rattle.compact_lists.proofs.counts.CountList.get.Goals as goal

pub returns-then-index-len : goal.returns-then-index-len
returns-then-index-len c =
    let l = c.self.inside in
    let all = length-over l.bases.rows l.bases_of.items l.rises.rows c.self.invariant.rises in
    sym (slice_get_past c.args.self.now.items c.args.index
    (search (arith, all, ap (λ v. length v.items) c.self.view_is)))

pub returns : goal.returns
returns c =
    let l = c.self.inside in
    let n = c.index.result.now in
    let number : slice_get l.bases_of.items c.args.index ≡ Some n =
    slice_get_read l.bases_of.items (length l.bases_of.items) c.args.index n refl (search arith) c.index.ensures in
    let base : slice_index_or l.bases.rows n [] ≡ c.row.result.now =
    get_or_from_slice_get l.bases.rows n c.row.result.now [] c.row.ensures.row in
    let at = over_get l.bases.rows l.bases_of.items l.rises.rows c.args.index n c.row-2.result.now number
    c.row-2.ensures.row in
    sym (sym (ap (λ v. slice_get v.items c.args.index) c.self.view_is) ∙ at
    ∙ ap (λ b. Some (counts_from b c.row-2.result.now)) base)
