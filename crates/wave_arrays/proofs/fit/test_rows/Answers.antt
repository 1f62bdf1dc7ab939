use Rattle.wave_arrays.proofs.fit.test_rows.Goals as goal

pub returns-clause-fit : goal.returns-clause-fit
returns-clause-fit c = record {
  racks = c.are_racks_fit.ensures.0 c.if-not-are_racks_fit.false;
  workers = c.are_workers_fit.ensures.0 c.if-not-are_workers_fit.false;
  splits = c.are_splits_fit.ensures.0 c.if-not-are_splits_fit.false;
  barred = c.are_bars_fit.ensures.0 c.if-not-are_bars_fit.false;
  holders = c.are_holders_fit.ensures.0 c.if-not-are_holders_fit.false;
}
