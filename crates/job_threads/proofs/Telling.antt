-- What a hand keeps of an answer it keeps of the plain one.
use Rattle.std.proofs.Common.{ℕ, List}
use Rattle.master_state.specs.declared.answers.Answer.{Answer}
use Rattle.master_state.specs.declared.answers.Answer.TheVariants.{Accepted, Ignored}
use Rattle.master_state.specs.declared.events.Event.{Event}
use Rattle.master_state.specs.Jobs.{plain}
use Rattle.hand_ledger.specs.Hands.{HandValue}
use Rattle.shared_master.specs.Steps.{IsKeptAs}

pub kept_plainly : {T B : Type 0} {hand : HandValue} {event : Event} {counts : List (List ℕ)}
    (given : Answer T B) {after : HandValue} → IsKeptAs hand event counts given after →
    IsKeptAs hand event counts (plain given) after
kept_plainly (Accepted place told) kept = record { hand_is = kept.hand_is; next = kept.next }
kept_plainly (Ignored why back) kept = record { hand_is = kept.hand_is; next = kept.next }
