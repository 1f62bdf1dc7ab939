use Rattle.std.proofs.Common.{ℕ, ◌+◌, ◌<◌, ◌∙◌, length, get_or, ap, sym, subst, arith}
use Rattle.std.proofs.lemmas.List.{get_or_default}
use Rattle.std.specs.Prelude.{slice_set}
use Rattle.tree_planner.proofs.Paired.{all_priced, no_pair, pairs_known, price_on, priced_next, ArePriced}
use Rattle.tree_planner.proofs.prices.split_prices.Goals as goal

pub split_price-requires-clause-split : goal.split_price-requires-clause-split
split_price-requires-clause-split c =
    let wave = c.args.problem.now in
    let pairs = c.args.pairs.now in
    subst (λ (x : ℕ × ℕ). x.0 < length wave.splits) (sym c.pair-item.is)
    (pairs_known wave pairs c.requires.planned c.loop-pair.pair-index c.pair-item.result c.loop-pair-test.true).0

pub split_price-requires-clause-worker : goal.split_price-requires-clause-worker
split_price-requires-clause-worker c =
    let wave = c.args.problem.now in
    let pairs = c.args.pairs.now in
    subst (λ (x : ℕ × ℕ). x.1 < length wave.workers) (sym c.pair-item.is)
    (pairs_known wave pairs c.requires.planned c.loop-pair.pair-index c.pair-item.result c.loop-pair-test.true).1

pub index_mut-requires : goal.index_mut-requires
index_mut-requires c =
    let wave = c.args.problem.now in
    let pairs = c.args.pairs.now in
    let at = ap (λ (x : ℕ × ℕ). x.0) c.pair-item.is in
    let known =
    (pairs_known wave pairs c.requires.planned c.loop-pair.pair-index c.pair-item.result c.loop-pair-test.true).0 in
    omega (arith, at, known, c.index.ensures.value, c.loop-pair.invariant.size)

pub loop-pair-preserved : goal.loop-pair-preserved
loop-pair-preserved c =
    let wave = c.args.problem.now in
    let worth = c.args.worth in
    let workers = c.args.workers.now in
    let pairs = c.args.pairs.now in
    let prices = c.loop-pair.prices.items in
    let k = c.loop-pair.pair-index in
    let planned = c.requires.planned in
    let x = c.pair-item.is ∙ get_or_default pairs k c.pair-item.result no_pair c.loop-pair-test.true in
    let at = get_or pairs k no_pair in
    let known = (pairs_known wave pairs planned k no_pair c.loop-pair-test.true).0 in
    let index = c.index.ensures.value ∙ ap (λ (x : ℕ × ℕ). x.0) x in
    let price = c.split_price.ensures ∙ ap (λ (x : ℕ × ℕ). price_on wave worth workers x.0 x.1) x in
    subst (λ (i : ℕ). ArePriced wave worth workers pairs (k + 1) (slice_set prices i c.split_price.result))
    (sym index)
    (subst (λ (v : ℕ). ArePriced wave worth workers pairs (k + 1) (slice_set prices at.0 v)) (sym price)
    (priced_next wave worth workers pairs planned.starts planned.made k prices c.loop-pair-test.true known
    c.loop-pair.invariant))

pub returns-clause-prices : goal.returns-clause-prices
returns-clause-prices c = λ starts of s.
    (let wave = c.args.problem.now in
    let pairs = c.args.pairs.now in
    let prices = c.loop-pair.prices.items in
    let end = c.loop-pair-test.false in
    all_priced wave c.args.worth c.args.workers.now pairs starts of prices
    (subst (λ (k : ℕ). ArePriced wave c.args.worth c.args.workers.now pairs k prices) (omega arith)
    c.loop-pair.invariant) s)
