use Rattle.std.proofs.Common.{ℕ, ◌+◌, ◌-◌, ◌∙◌, List, ap, sym}
use Rattle.std.specs.Prelude.{slice_index, unwrap_or}
use Rattle.wave_problem.specs.Wave.{cost}
use Rattle.price_certificate.specs.Certificate.{worker_price}
use Rattle.tree_planner.proofs.prices.prices_of.Goals as goal

pub returns-clause-prices : goal.returns-clause-prices
returns-clause-prices c = λ starts of.
    (let wave = c.args.problem.now in
    let splits = c.from_lists.ensures.splits in
    let workers = c.from_lists.ensures.workers in
    let of_worker = c.in_ok-workers.ensures.prices in
    let of_split = c.in_ok-splits.ensures.prices starts of in
    record {
      usable = λ w is. ap (λ (xs : List ℕ). slice_index xs w) workers ∙ (of_worker w).usable is;
      unusable = λ w is. ap (λ (xs : List ℕ). slice_index xs w) workers ∙ (of_worker w).unusable is;
      started = λ s w is. ap (λ (xs : List ℕ). slice_index xs s) splits ∙ (of_split s).started w is
          ∙ ap (λ (xs : List ℕ). c.args.worth - (slice_index xs w + unwrap_or (cost wave s w) 0))
          (c.deref.ensures.value ∙ sym workers)
          ∙ ap (λ (n : ℕ). n - (worker_price c.from_lists.result w + unwrap_or (cost wave s w) 0)) c.requires.worth;
      unstarted = λ s is. ap (λ (xs : List ℕ). slice_index xs s) splits ∙ (of_split s).unstarted is;
    })
