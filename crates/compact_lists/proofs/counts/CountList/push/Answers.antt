use Rattle.std.proofs.Common.{◌≡◌, ◌+◌, ◌-◌, ◌<◌, ◌^◌, ℕ, [], ◌∷◌, ◌++◌, length, All, sym, subst, ap}
use Rattle.std.proofs.Common.{◌∙◌, arith}
use Rattle.std.specs.Prelude.{slice_index_or}
use Rattle.std.proofs.lemmas.List.{length-append}
use Rattle.std.proofs.lemmas.List.Elements.{All-append, All-cons, All-nil, All-weaker, All-from_get_or}
use Rattle.std.proofs.lemmas.Option.{get_or_from_slice_get}
use Rattle.compact_lists.specs.Counts.{AreNear, counts_from, counts_over, rises_over}
use Rattle.compact_lists.specs.Lists.{CountsValue}
use Rattle.compact_lists.proofs.Counting.{from_rises, length-over, over_more, over_same}
use Rattle.compact_lists.proofs.counts.CountList.push.Goals as goal

pub fit_base-requires-clause-room : goal.fit_base-requires-clause-room
fit_base-requires-clause-room c =
    let l = c.self.inside in
    let all = length-over l.bases.rows l.bases_of.items l.rises.rows c.self.invariant.rises in
    search (arith, all, ap (λ (v : CountsValue). length v.items) c.self.view_is)

pub push_rises-requires-clause-room : goal.push_rises-requires-clause-room
push_rises-requires-clause-room c =
    let l = c.self.inside in
    let all = length-over l.bases.rows l.bases_of.items l.rises.rows c.self.invariant.rises in
    search (arith, all, ap (λ (v : CountsValue). length v.items) c.self.view_is)

pub push_rises-requires-clause-near : goal.push_rises-requires-clause-near
push_rises-requires-clause-near c =
    let new = c.fit_base.new.bases.rows in
    let last : slice_index_or new (length new - 1) [] ≡ c.row.result.now =
    ap (λ n. slice_index_or new (n - 1) []) (sym c.len-last.ensures.count)
    ∙ get_or_from_slice_get new (c.len-last.result - 1) c.row.result.now [] c.row.ensures.row in
    subst (λ base. AreNear base c.args.counts.now) last c.fit_base.ensures.near

pub push_reserved-requires : goal.push_reserved-requires
push_reserved-requires c =
    let l = c.self.inside in
    let all = length-over l.bases.rows l.bases_of.items l.rises.rows c.self.invariant.rises in
    search (arith, all, ap (λ (v : CountsValue). length v.items) c.self.view_is)

pub invariant_of-self : goal.invariant_of-self
invariant_of-self c =
    let l = c.self.inside in
    let new = c.fit_base.new.bases.rows in
    let over = c.fit_base.ensures.bases in
    let n = c.len-last.result - 1 in
    let bases : length new ≡ length l.bases.rows + length over.0 =
    ap (λ rows. length rows) over.1 ∙ length-append l.bases.rows over.0 in
    let sweeps : length c.push_reserved.new.self.items ≡ length l.bases_of.items + 1 =
    ap (λ items. length items) c.push_reserved.ensures.items ∙ length-append l.bases_of.items (n ∷ []) in
    let rises = ap (λ rows. length rows) c.push_rises.ensures.rows ∙ length-append l.rises.rows _ in
    let all = length-over l.bases.rows l.bases_of.items l.rises.rows c.self.invariant.rises in
    let was = ap (λ (v : CountsValue). length v.items) c.self.view_is in
    let Within : ℕ → Type 0 = λ base. base < length new in
    let older = All-weaker (λ base. base < length l.bases.rows) Within
    (λ base less. omega (arith, less, bases)) l.bases_of.items c.self.invariant.within in
    let last : n < length new = omega (arith, c.len-last.ensures.count, c.fit_base.ensures.some) in
    record {
      within = subst (All Within) (sym c.push_reserved.ensures.items)
          (All-append Within l.bases_of.items (n ∷ []) older (All-cons Within n [] last (All-nil Within)));
      rises = omega (arith, sweeps, rises, c.self.invariant.rises);
      few = search (arith, all, was, sweeps);
      few_bases = omega (arith, sweeps, bases, over.2, c.self.invariant.few_bases);
      room = search arith;
      same_room = search arith;
      same_width = search arith;
      few_workers = search arith;
    }

pub returns-clause-items : goal.returns-clause-items
returns-clause-items c =
    let l = c.self.inside in
    let counts = c.args.counts.now in
    let new = c.fit_base.new.bases.rows in
    let n = c.len-last.result - 1 in
    let own = rises_over c.row.result.now counts in
    let over = c.fit_base.ensures.bases in
    let older : counts_over new l.bases_of.items l.rises.rows ≡ c.args.self.now.items =
    ap (λ bases. counts_over bases l.bases_of.items l.rises.rows) over.1
    ∙ over_same l.bases.rows over.0 l.bases_of.items l.rises.rows c.self.invariant.within
    ∙ ap (λ (v : CountsValue). v.items) c.self.view_is in
    let base : slice_index_or new n [] ≡ c.row.result.now =
    get_or_from_slice_get new n c.row.result.now [] c.row.ensures.row in
    let near : AreNear c.row.result.now counts =
    subst (λ b. AreNear b counts)
    (ap (λ k. slice_index_or new (k - 1) []) (sym c.len-last.ensures.count) ∙ base) c.fit_base.ensures.near in
    let last : counts_from (slice_index_or new n []) own ≡ counts =
    ap (λ b. counts_from b own) base
    ∙ from_rises c.row.result.now counts (search arith)
    (All-from_get_or (λ n. n < 2 ^ 64) counts 0 (λ i within. search (arith, c.type_inv.counts i))) near in
    (λ k. counts_over new (c.push_reserved.ensures.items k) (c.push_rises.ensures.rows k))
    ∙ over_more new l.bases_of.items l.rises.rows n own c.self.invariant.rises
    ∙ (λ k. older k ++ last k ∷ [])
