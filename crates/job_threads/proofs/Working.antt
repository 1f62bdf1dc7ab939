-- What workers have done of the orders of their lanes.
use Rattle.std.proofs.Common.{List, [], ◌∷◌, ◌++◌, ◌≡◌, length, refl, subst, sym}
use Rattle.lane_queue.specs.Lanes.{PassValue}
use Rattle.lane_queue.specs.declared.order.Order.{Order}
use Rattle.master_state.specs.States.{Setup}
use Rattle.hand_ledger.specs.Hands.{HandValue, new_hand}
use Rattle.job_threads.specs.Telling.{HasWorked, Performs, PerformsAll, worker_room}

-- an order more
pub performs_more : (setup : Setup) (orders : List Order) (given : Order) (before between after : HandValue)
    → PerformsAll setup orders before between → Performs setup given between after
    → PerformsAll setup (orders ++ given ∷ []) before after
performs_more setup [] given before between after same next =
    (after, subst (λ hand. Performs setup given hand after) same next, refl)
performs_more setup (first ∷ orders) given before between after all next =
    (all.0, all.1, performs_more setup orders given all.0 between after all.2 next)

-- an order more was taken, and done
pub has_worked_more : (setup : Setup) (old new : PassValue) (given : Order) (before after : HandValue)
    → new ≡ record old { takes = old.takes ++ given ∷ [] } → Performs setup given before after
    → HasWorked setup old before → HasWorked setup new after
has_worked_more setup old new given before after taken did has =
    subst (λ pass. HasWorked setup pass after) (sym taken)
    (performs_more setup old.takes given (new_hand (length setup.cluster.slots) worker_room) before after has did)
