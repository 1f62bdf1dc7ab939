-- A table in which one worker was written back changed.
use Rattle.std.proofs.Common.{◌≡◌, ℕ, ◌<◌, List, length, get_or, ap, refl, ◌∙◌}
use Rattle.std.proofs.Math.ListN.{set}
use Rattle.node_ids.proofs.Updating.{updated_at}
use Rattle.node_ids.specs.Updates.{updated}
use Rattle.worker_table.specs.Workers.{Workers, with_worker}
use Rattle.worker_table.specs.View.{table_of}
use Rattle.worker_table.specs.declared.Worker.{Worker}
use Rattle.worker_table.specs.declared.WorkerTable.TheInside.{Inside}

pub with_worker_at : (inside : Inside) {t : Workers} {i n : ℕ} {found : Worker} (change : Worker → Worker) →
    i ≡ n → table_of inside ≡ t → found ≡ get_or inside.workers.items i found → n < length t.each →
    record { limit = inside.limit; each = set inside.workers.items i (change found); barred = inside.bars }
    ≡ with_worker change t n
with_worker_at inside {t = t} {i = i} {n = n} {found = found} change at is was known =
    ap (λ (ws : List Worker). record { limit = inside.limit; each = ws; barred = inside.bars })
    (updated_at change inside.workers.items t.each i n found (change found) at
    (ap (λ (u : Workers). u.each) is) was refl known)
    ∙ ap (λ (u : Workers). record u { each = updated change t.each n }) is
