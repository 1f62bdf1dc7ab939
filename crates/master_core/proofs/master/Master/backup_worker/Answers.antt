use Rattle.std.proofs.Common.{length, sym, ap, ◌∙◌}
use Rattle.std.specs.Option.{is_some}
use Rattle.std.proofs.lemmas.Bool.{true≢false}
use Rattle.master_core.proofs.Backing.{backup_nowhere}
use Rattle.master_core.proofs.master.Master.backup_worker.Goals as goal

pub returns-then-is_some : goal.returns-then-is_some
returns-then-is_some c =
    backup_nowhere c.args.self.now c.args.split (length c.args.self.now.setup.cluster.slots) c.in_ok-worker.worker
    c.in_ok-worker.ensures
    (λ none. true≢false (sym c.if-is_some.true ∙ c.is_some.ensures
    ∙ ap is_some (c.why_not_backup.ensures ∙ none)))
