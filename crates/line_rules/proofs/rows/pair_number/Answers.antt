use Rattle.std.proofs.Common.{◌∙◌, sym}
use Rattle.std.proofs.lemmas.Option.{none-some}
use Rattle.line_shapes.specs.declared.keyword.Keyword.TheVariants.{Barred}
use Rattle.line_rules.proofs.Barred.{bar_found, barred_by, no_pair, split_there, worker_there}
use Rattle.line_rules.proofs.rows.pair_number.Goals as goal

pub returns-in_err-split : goal.returns-in_err-split
returns-in_err-split c rows tabled =
    no_pair rows _ _ _ tabled (Barred, c.args.first.now, c.args.second.now) _ c.from_residual.ensures
    (λ n b. c.in_err-split.ensures _ (split_there rows _ _ _ tabled Barred _ _ n b))

pub returns-in_err-worker : goal.returns-in_err-worker
returns-in_err-worker c rows tabled =
    no_pair rows _ _ _ tabled (Barred, c.args.first.now, c.args.second.now) _
    c.from_residual-in_err-worker.ensures
    (λ n b. c.in_err-worker.ensures _ (worker_there rows _ _ _ tabled Barred _ _ n b))

pub returns-in_err-number : goal.returns-in_err-number
returns-in_err-number c rows tabled =
    no_pair rows _ _ _ tabled (Barred, c.args.first.now, c.args.second.now) _
    c.from_residual-in_err-number.ensures
    (λ n b. none-some n (c.in_err-number.ensures.value
    ∙ bar_found rows _ _ _ tabled Barred _ _ n b c.in_ok-split.split c.in_ok-worker.worker
    c.in_ok-split.ensures c.in_ok-worker.ensures))

pub returns : goal.returns
returns c rows tabled =
    barred_by rows _ _ _ tabled c.args.first.now c.args.second.now c.in_ok-split.split c.in_ok-worker.worker _
    c.in_ok-split.ensures c.in_ok-worker.ensures (sym c.in_ok-number.ensures.value)
