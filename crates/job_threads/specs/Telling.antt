-- What a worker tells the master of its orders.
use Rattle.std.specs.Prelude.{ℕ, ◌≡◌, ◌≢◌, ◌⊎◌, Bool, true, false, List, [], ◌∷◌, length}
use Rattle.std.specs.Prelude.{Option, Some, None, IfSome}
use Rattle.std.specs.Arc.{arc_value}
use Rattle.std.specs.Option.{is_some}
use Rattle.word_map.specs.Runs.{MapView}
use Rattle.shuffle_reduce.specs.Gather.{texts_of_runs}
use Rattle.shuffle_reduce.specs.Merged.{PartView}
use Rattle.lane_queue.specs.declared.order.Order.{Order}
use Rattle.lane_queue.specs.declared.order.Order.TheVariants as order
use Rattle.lane_queue.specs.Lanes.{PassValue}
use Rattle.master_state.specs.declared.answers.Answer.{Answer}
use Rattle.master_state.specs.declared.answers.Answer.TheVariants.{Ignored}
use Rattle.master_state.specs.declared.answers.Why.TheVariants.{WrongInput}
use Rattle.master_state.specs.declared.events.Event.{Event}
use Rattle.master_state.specs.declared.events.Event.TheVariants as events
use Rattle.master_state.specs.Jobs.{Plain}
use Rattle.master_state.specs.Refusals.{MapDone, MapFailed, PartDone, PartFailed}
use Rattle.master_state.specs.States.{Setup}
use Rattle.master_state.specs.declared.states.Limits.{Limits}
use Rattle.hand_ledger.specs.Hands.{HandValue, new_hand, with_place}
use Rattle.shared_master.specs.Steps.{IsKeptAs, IsStepOf}

-- What a worker tells of an attempt: that it failed, where nothing was made; else that it is done, and where
-- the master has no use for what was made, that it failed.
pub record IsDone (done : Event) (hand : HandValue) (given : Plain) (after : HandValue) : Type 0 where
  pub kept : IsKeptAs hand done [] given after
  pub useful : given ≢ Ignored WrongInput tt

pub record IsOfNoUse (done failed : Event) (hand : HandValue) (given : Plain) (after : HandValue)
    : Type 0 where
  pub between : HandValue
  pub refused : IsKeptAs {T = Unit {0}} {B = Unit {0}} hand done [] (Ignored WrongInput tt) between
  pub told : IsKeptAs between failed [] given after

abbrev pub Tells : Event → Event → Bool → HandValue → Plain → HandValue → Type 0
Tells done failed false hand given after = IsKeptAs hand failed [] given after
Tells done failed true hand given after =
    IsDone done hand given after ⊎ IsOfNoUse done failed hand given after

-- A master of the job took the worker's first call for a map attempt: with these words it is done, and
-- without any it failed.
abbrev pub IsMapTold : Setup → ℕ → Option MapView → HandValue → Type 0
IsMapTold setup a (Some made) hand =
    (given : Answer (Unit {0}) MapView) × (after : HandValue)
    × IsStepOf setup hand (MapDone a made) [] given after
IsMapTold setup a None hand =
    (given : Plain) × (after : HandValue) × IsStepOf setup hand (MapFailed a) [] given after

-- A master of the job took the worker's first call for a reduce attempt.
abbrev pub IsPartTold : Setup → ℕ → Option PartView → HandValue → Type 0
IsPartTold setup a (Some made) hand =
    (given : Answer (Unit {0}) PartView) × (after : HandValue)
    × IsStepOf setup hand (PartDone a made) [] given after
IsPartTold setup a None hand =
    (given : Plain) × (after : HandValue) × IsStepOf setup hand (PartFailed a) [] given after

-- the master has answered a worker's call for a map order; no other is asked for
abbrev pub IsAnswered : Setup → Order → Type 0
IsAnswered setup (order.Map a text) = (made : Option MapView) × (hand : HandValue)
    × IsMapTold setup a made hand
IsAnswered setup (order.Reduce a part runs) = ⊥

-- A worker does its order: what is told is made of the text, or of the runs, that the order has.
abbrev pub IsDoneOrder : Setup → Order → HandValue → HandValue → Type 0
IsDoneOrder setup (order.Map a text) before after =
    (made : Option MapView) × IfSome made (λ m. m.text ≡ arc_value text)
    × IfSome made (λ m. m.parts ≡ setup.cluster.parts)
    × IsMapTold setup a made before
    × ((given : Plain) × Tells (events.MapDone a) (events.MapFailed a) (is_some made) before given after)
IsDoneOrder setup (order.Reduce a part runs) before after =
    (made : Option PartView)
    × IfSome made (λ m. m.part ≡ part) × IfSome made (λ m. m.parts ≡ setup.cluster.parts)
    × IfSome made (λ m. m.texts ≡ texts_of_runs runs.items)
    × IsPartTold setup a made before
    × ((given : Plain) × Tells (events.PartDone a) (events.PartFailed a) (is_some made) before given after)

-- it does its order, or tells nothing
abbrev pub Does : Setup → Order → HandValue → HandValue → Type 0
Does setup given before after = (after ≡ before) ⊎ IsDoneOrder setup given before after

-- it does so when its hand has been given room for a call, or passes the order over
abbrev pub Performs : Setup → Order → HandValue → HandValue → Type 0
Performs setup given before after = (after ≡ before) ⊎ Does setup given (with_place before) after

-- it does so with each of these orders, one after the other, and tells nothing else
abbrev pub PerformsAll : Setup → List Order → HandValue → HandValue → Type 0
PerformsAll setup [] before after = after ≡ before
PerformsAll setup (given ∷ orders) before after =
    (between : HandValue) × Performs setup given before between × PerformsAll setup orders between after

-- how many calls the hand of a worker has room for at first
abbrev pub worker_room : Limits
worker_room = record { events = 64; attempts = 0; sweeps = 0 }

-- The hand of a worker's thread when it ends: it has done the orders that it took from its lane, and told
-- nothing else.
abbrev pub HasWorked : Setup → PassValue → HandValue → Type 0
HasWorked setup pass hand =
    PerformsAll setup pass.takes (new_hand (length setup.cluster.slots) worker_room) hand
