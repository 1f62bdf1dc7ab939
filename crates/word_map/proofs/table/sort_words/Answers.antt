use Rattle.std.proofs.Common.{ap}
use Rattle.std.proofs.lemmas.Cmp.{nat_list_cmp_total}
use Rattle.std.proofs.lemmas.Fn.{always_returns_same}
use Rattle.std.proofs.lemmas.List.MinMax.{ranks_by}
use Rattle.std.proofs.lemmas.Result.{on_ok_weaker}
use Rattle.std.specs.Cmp.Lexicographic.{slice_cmp}
use Rattle.std.specs.Ordering.{is_lt, nat_cmp}
use Rattle.word_map.proofs.SortedLemmas.{sorted_keys}
use Rattle.word_map.proofs.table.sort_words.Goals as goal

-- the comparison answers by the words alone
pub returns-clause-sorted : goal.returns-clause-sorted
returns-clause-sorted g c = on_ok_weaker c.sort_unstable_by.result
    (λ by. sorted_keys _
    (by (λ a b. is_lt (slice_cmp nat_cmp a.0 b.0)) (ranks_by nat_list_cmp_total (λ e. e.0))
    (always_returns_same _ _ _ (λ a r f' k. (ap is_lt k.met.0, k.met.1)))))
    c.sort_unstable_by.ensures.sorted
