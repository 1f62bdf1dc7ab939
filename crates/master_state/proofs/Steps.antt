-- What the bodies of the calls and their callers want of the definitions.
use Rattle.std.proofs.Common.{ℕ, List, [], ◌∷◌, ◌++◌, refl, subst}
use Rattle.master_state.specs.declared.events.Event.{Event}
use Rattle.master_state.specs.States.{Setup, State}
use Rattle.master_state.specs.Refusals.{Call, MapDone, MapFailed, Withdraw, Die, Join, Add, Lose, Sweep}
use Rattle.master_state.specs.Refusals.{ReduceStart, PartDone, PartFailed, Backup}
use Rattle.master_state.specs.Steps.{Step, Leads, IsLegal, IsChange}
use Rattle.master_state.specs.Jobs.{Job, IsAccepted, event_of}

-- the change of an accepted call is the step of its event
pub step_of_change : (setup : Setup) (old : State) (call : Call) (new : State) →
    IsChange setup old call new → Step setup old (event_of old call) new
step_of_change setup old (MapDone a result) new change = (result, change)
step_of_change setup old (MapFailed a) new change = change
step_of_change setup old (Withdraw a) new change = change
step_of_change setup old (Die w) new change = change
step_of_change setup old (Join w set) new change = change
step_of_change setup old (Add split w) new change = change
step_of_change setup old (Lose split w) new change = change
step_of_change setup old (Sweep counts) new change = (counts, refl, change)
step_of_change setup old ReduceStart new change = (refl, refl, refl, change)
step_of_change setup old (PartDone a result) new change = (result, change)
step_of_change setup old (PartFailed a) new change = change
step_of_change setup old (Backup split w) new change = (refl, change)

-- one step more
pub Leads-more : (setup : Setup) (old mid new : State) (events : List Event) (event : Event) →
    Leads setup old events mid → Step setup mid event new → Leads setup old (events ++ event ∷ []) new
Leads-more setup old mid new [] event leads step =
    (new, subst (λ (s : State). Step setup s event new) leads step, refl)
Leads-more setup old mid new (first ∷ events) event leads step =
    (leads.0, leads.1, Leads-more setup leads.0 mid new events event leads.2 step)

-- a legal history stays legal by an accepted call
pub legal-accepted : (old new : Job) (call : Call) (place : ℕ) →
    IsLegal old.setup old.history old.state → IsAccepted old call place new →
    IsLegal new.setup new.history new.state
legal-accepted old new call place legal accepted =
    rw (accepted.next.setup, accepted.next.history)
    (Leads-more old.setup _ old.state new.state old.history (event_of old.state call) legal
    (step_of_change old.setup old.state call new.state accepted.change))
