-- Every state that a legal history leads to is tidy.
use Rattle.std.proofs.Common.{List, [], ◌∷◌}
use Rattle.master_state.specs.declared.events.Event.{Event}
use Rattle.master_state.specs.declared.events.Event.TheVariants as events
use Rattle.master_state.specs.States.{Setup, State, IsWhole, opening}
use Rattle.master_state.specs.Refusals.{Call, MapDone, MapFailed, Withdraw, Die, Join, Add, Lose, Sweep}
use Rattle.master_state.specs.Refusals.{ReduceStart, PartDone, PartFailed, Backup}
use Rattle.master_state.specs.Changes.{after}
use Rattle.master_state.specs.Steps.{Step, Leads, IsLegal, IsChange}
use Rattle.master_state.specs.Tidy.{IsTidy}
use Rattle.master_state.proofs.Opening.{tidy_opening}
use Rattle.master_state.proofs.Holding.{tidy_add, tidy_lose}
use Rattle.master_state.proofs.Ending.{tidy_after_map_done, tidy_map_failed, tidy_withdraw, tidy_die}
use Rattle.master_state.proofs.Ending.{tidy_part_done, tidy_part_failed}
use Rattle.master_state.proofs.Starting.{tidy_backup, tidy_reduce_start}
use Rattle.master_state.proofs.Sweeping.{tidy_sweep, tidy_join}
use Rattle.master_state.proofs.Waves.{tidy_ahead, tidy_wave}

-- a call that is accepted keeps a state tidy
pub tidy_after : (setup : Setup) (s : State) (call : Call) (new : State) → IsTidy setup s →
    IsChange setup s call new →
    IsTidy setup (after s call)
tidy_after setup s (MapDone a result) new tidy change =
    tidy_after_map_done setup s a result tidy change.allowed
tidy_after setup s (MapFailed a) new tidy change = tidy_map_failed setup s a tidy change.allowed
tidy_after setup s (Withdraw a) new tidy change = tidy_withdraw setup s a tidy change.allowed
tidy_after setup s (Die w) new tidy change = tidy_die setup s w tidy change.allowed
tidy_after setup s (Join w set) new tidy change = tidy_join setup s w set tidy change.known change.allowed
tidy_after setup s (Add split w) new tidy change = tidy_add setup s split w tidy change.allowed
tidy_after setup s (Lose split w) new tidy change = tidy_lose setup s split w tidy change.allowed
tidy_after setup s (Sweep counts) new tidy change = tidy_sweep setup s counts tidy change.allowed
tidy_after setup s ReduceStart new tidy change = tidy_reduce_start setup s tidy change.allowed
tidy_after setup s (PartDone a result) new tidy change = tidy_part_done setup s a result tidy change.allowed
tidy_after setup s (PartFailed a) new tidy change = tidy_part_failed setup s a tidy change.allowed
tidy_after setup s (Backup split w) new tidy change = tidy_backup setup s split w tidy change.allowed

pub tidy_change : (setup : Setup) (s : State) (call : Call) (new : State) → IsTidy setup s →
    IsChange setup s call new →
    IsTidy setup new
tidy_change setup s call new tidy change = rw change.leads (tidy_after setup s call new tidy change)

-- so does every event
pub tidy_step : (setup : Setup) (s : State) (event : Event) (new : State) → IsTidy setup s →
    Step setup s event new → IsTidy setup new
tidy_step setup s (events.Wave first count cost) new tidy step =
    tidy_wave setup s first count cost step.0 new tidy step.1
tidy_step setup s (events.Ahead first count cost) new tidy step =
    tidy_ahead setup s first count cost step.0 step.1 step.2 new tidy step.3
tidy_step setup s (events.MapDone a) new tidy step = tidy_change setup s (MapDone a step.0) new tidy step.1
tidy_step setup s (events.MapFailed a) new tidy step = tidy_change setup s (MapFailed a) new tidy step
tidy_step setup s (events.Withdraw a) new tidy step = tidy_change setup s (Withdraw a) new tidy step
tidy_step setup s (events.Die w) new tidy step = tidy_change setup s (Die w) new tidy step
tidy_step setup s (events.Join w set) new tidy step = tidy_change setup s (Join w set) new tidy step
tidy_step setup s (events.Add split w) new tidy step = tidy_change setup s (Add split w) new tidy step
tidy_step setup s (events.Lose split w) new tidy step = tidy_change setup s (Lose split w) new tidy step
tidy_step setup s (events.Sweep place) new tidy step = tidy_change setup s (Sweep step.0) new tidy step.2
tidy_step setup s (events.ReduceStart a r w) new tidy step = tidy_change setup s ReduceStart new tidy step.3
tidy_step setup s (events.PartDone a) new tidy step = tidy_change setup s (PartDone a step.0) new tidy step.1
tidy_step setup s (events.PartFailed a) new tidy step = tidy_change setup s (PartFailed a) new tidy step
tidy_step setup s (events.Backup a split w) new tidy step = tidy_change setup s (Backup split w)
    new tidy step.1

pub tidy_leads : (setup : Setup) (s : State) (history : List Event) (new : State) → IsTidy setup s →
    Leads setup s history new →
    IsTidy setup new
tidy_leads setup s [] new tidy leads = rw leads tidy
tidy_leads setup s (event ∷ history) new tidy leads =
    tidy_leads setup leads.0 history new (tidy_step setup s event leads.0 tidy leads.1) leads.2

pub tidy_legal : (setup : Setup) (history : List Event) (s : State) → IsWhole setup.cluster →
    IsLegal setup history s → IsTidy setup s
tidy_legal setup history s whole legal = tidy_leads setup (opening setup) history s (tidy_opening setup whole)
    legal
