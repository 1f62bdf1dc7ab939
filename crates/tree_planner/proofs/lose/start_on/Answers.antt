use Rattle.std.proofs.Common.{◌≡◌, ℕ, ◌∙◌, ap, get_or, arith, Some}
use Rattle.std.specs.Prelude.{◌≢◌}
use borrow.Author.Count.{below_more}
use Rattle.std.proofs.lemmas.List.{get_or_default}
use Rattle.wave_problem.specs.Assignment.{start_of}
use Rattle.tree_planner.specs.View.{state_of}
use Rattle.tree_planner.proofs.Paired.{no_pair, pair_of_start, pairs_known, start_of_pair}
use Rattle.tree_planner.proofs.Pulled.{start_there}
use Rattle.tree_planner.proofs.lose.start_on.Goals as goal

pub unreachable-requires : goal.unreachable-requires
unreachable-requires c =
    let wave = c.args.problem.now in
    let down = c.requires.down in
    start_there wave (state_of c.args.tables.now) down.planned.starts c.args.worker c.requires.worker
    c.requires.usable c.requires.standing.kept c.requires.full down.down
    (λ s l is.
    (let found = pair_of_start c.args.pairs.now down.planned.starts down.planned.made s c.args.worker is in
    let at = found.1 in
    c.loop-pair.invariant found.0 (omega arith) (ap (λ (x : ℕ × ℕ). x.1) found.2)))

pub loop-pair-preserved : goal.loop-pair-preserved
loop-pair-preserved c =
    below_more (λ (k : ℕ). (get_or c.args.pairs.now k no_pair).1 ≢ c.args.worker) c.loop-pair.pair-index
    c.loop-pair.invariant (λ e.
    (let is = c.pair-item.is ∙ get_or_default c.args.pairs.now c.loop-pair.pair-index c.pair-item.result no_pair
    c.loop-pair-test.true in
    let at = ap (λ (x : ℕ × ℕ). x.1) is in
    let a = c.index-on.ensures.value in
    let b = c.index.ensures.value in
    omega (arith, at, e, a, b, c.if-on-index.false)))

pub returns-then-on-index-clause-known : goal.returns-then-on-index-clause-known
returns-then-on-index-clause-known c =
    let pairs = c.args.pairs.now in
    let k = c.loop-pair.pair-index in
    let s = ap (λ (x : ℕ × ℕ). x.0) (c.pair-item.is
    ∙ get_or_default pairs k c.pair-item.result no_pair c.loop-pair-test.true) in
    let known =
    (pairs_known c.args.problem.now pairs c.requires.down.planned k no_pair c.loop-pair-test.true).0 in
    omega (arith, known, s, c.index-split.ensures.value)

pub returns-then-on-index-clause-down : goal.returns-then-on-index-clause-down
returns-then-on-index-clause-down c =
    let pairs = c.args.pairs.now in
    let k = c.loop-pair.pair-index in
    let down = c.requires.down in
    let is = c.pair-item.is ∙ get_or_default pairs k c.pair-item.result no_pair c.loop-pair-test.true in
    let s = ap (λ (x : ℕ × ℕ). x.0) is in
    let on = ap (λ (x : ℕ × ℕ). x.1) is in
    let same : (get_or pairs k no_pair).1 ≡ c.args.worker =
    omega (arith, on, c.index-on.ensures.value, c.index.ensures.value, c.if-on-index.true) in
    down.down.started c.index-split.result c.args.worker
    (ap (start_of down.planned.starts) (c.index-split.ensures.value ∙ s)
    ∙ start_of_pair pairs down.planned.starts down.planned.made k c.loop-pair-test.true ∙ ap Some same)
