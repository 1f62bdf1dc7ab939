use Rattle.std.proofs.Common.{map}
use Rattle.wave_arrays.specs.Claims.{prices_in, start_in}
use Rattle.wave_arrays.specs.Rows.{wave_in}
use Rattle.mrjob_c.proofs.Plain.{judged_plain}
use Rattle.mrjob_c.proofs.checks.check.Goals as goal

pub returns-clause-judged : goal.returns-clause-judged
returns-clause-judged c =
    judged_plain (wave_in c.args.rows.now) (map start_in c.args.starts.now)
    (prices_in c.args.split_prices.now c.args.worker_prices.now) c.in_ok-judge.field-0
    (rw c.free-unpriced.ensures at c.in_ok-judge.ensures.judged)
