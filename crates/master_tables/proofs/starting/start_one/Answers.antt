use Rattle.std.proofs.Common.{◌≡◌, ℕ, ◌+◌, length, ap, arith}
use Rattle.master_tables.proofs.Starts.{run_by}
use Rattle.master_tables.proofs.Together.{updated_here}
use Rattle.master_tables.proofs.starting.start_one.Goals as goal

pub returns-clause-running : goal.returns-clause-running
returns-clause-running c =
    let next : ℕ = length c.args.starts.now.items + 1 in
    let number : c.new-number.result ≡ next = omega (arith, c.new-number.ensures, c.len.ensures) in
    updated_here (λ _. run_by next c.args.worker) c.args.splits.now.items c.index.ensures.value
    c.index_mut.ensures.value (ap (λ (n : ℕ). run_by n c.args.worker) number) c.requires.split
