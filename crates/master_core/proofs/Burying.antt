-- The deaths of a sweep, one after another.
use Rattle.std.proofs.Common.{◌≡◌, ℕ, List, ap, sym, ◌∙◌}
use Rattle.std.specs.Prelude.{fold}
use Rattle.worker_table.specs.Workers.{Workers, silent_in, swept}
use Rattle.master_state.specs.States.{State}
use Rattle.master_state.specs.Changes.{died, with_sweep}
use Rattle.master_state.proofs.Sweeping.{heard_state}

-- those that were silent too long have died, and no others
pub swept_is : (s : State) (counts dead : List ℕ) (table : Workers) (next : State) →
    table ≡ swept s.workers counts → dead ≡ silent_in table → fold died (heard_state s counts) dead ≡ next →
    with_sweep s counts ≡ next
swept_is s counts dead table next heard silent buried =
    ap (λ (t : Workers). fold died (heard_state s counts) (silent_in t)) (sym heard)
    ∙ ap (fold died (heard_state s counts)) (sym silent) ∙ buried
