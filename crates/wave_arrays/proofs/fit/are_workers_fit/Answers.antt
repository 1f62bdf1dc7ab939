use Rattle.std.proofs.Common.{length}
use Rattle.wave_arrays.specs.Places.{IsWorkerFit}
use Rattle.wave_arrays.proofs.Unfit.{none_unfit}
use Rattle.wave_arrays.proofs.fit.are_workers_fit.Goals as goal

pub returns-then-rows-le-MAX_WORKERS : goal.returns-then-rows-le-MAX_WORKERS
returns-then-rows-le-MAX_WORKERS c =
    let rows = c.args.rows.now in
    let each = none_unfit (IsWorkerFit (length rows.centre_of.now)) rows.workers.now c.unfit_worker.result
    c.is_none.result c.unfit_worker.ensures c.is_none.ensures in (
      λ none. record {
        few = c.if-rows-le-MAX_WORKERS.true;
        known = λ i d lt. (each.0 none i d lt).0;
        slots = λ i d lt. (each.0 none i d lt).1;
      },
      λ fit. each.1 (λ i d lt. (fit.known i d lt, fit.slots i d lt)),
    )
