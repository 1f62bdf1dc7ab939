-- How the threads of a run ended, whether its history is made of their calls, and what is concluded from it.
use Rattle.std.specs.Prelude.{ℕ, ◌≡◌, ◌⊎◌, List, Some, Ok, Err}
use Rattle.std.specs.declared.result.Result.{Result}
use Rattle.master_state.specs.Jobs as master
use Rattle.master_state.specs.States.{Setup}
use Rattle.hand_ledger.specs.Hands.{HandValue}
use Rattle.hand_ledger.specs.declared.making.HandError.{HandError}
use Rattle.hand_ledger.specs.declared.making.HandError.TheVariants as hand_errors
use Rattle.hand_ledger.specs.Settling.{AgreesAt, IsLowestTorn}
use Rattle.shared_master.specs.Held.{IsMasterOf, is_short, log_of}
use Rattle.job_threads.specs.Outcomes.{IsRecordOf}
use Rattle.job_threads.specs.declared.outcome.Record.{Record}
use Rattle.job_threads.specs.declared.outcome.RunError.{RunError}
use Rattle.job_threads.specs.declared.outcome.RunError.TheVariants as ends

-- why there is no hand
abbrev pub no_hand : HandError → RunError
no_hand hand_errors.Memory = ends.Memory
no_hand hand_errors.Limit = ends.Torn 0

-- two ends in one: the first error
abbrev pub first_end : Result (Unit {0}) RunError → Result (Unit {0}) RunError → Result (Unit {0}) RunError
first_end (Ok rest) next = next
first_end (Err e) next = Err e

-- master and hands agree everywhere
abbrev pub AreSettled : master.Job → List HandValue → Type 0
AreSettled last hands = (place : ℕ) → AgreesAt (log_of last) (is_short last) hands place

-- they do, and then it is so; or the lowest place at which they do not is told
abbrev pub SettlesAs : {A : Type 0} → master.Job → List HandValue → Result A RunError → Type 0 → Type 0
SettlesAs last hands given Then =
    (AreSettled last hands × Then)
    ⊎ ((place : ℕ) × IsLowestTorn (log_of last) (is_short last) hands (Some place)
    × (given ≡ Err (ends.Torn place)))

-- what is recorded of a master; what is neither done nor stuck is told as torn
abbrev pub RecordsAs : master.Job → Result Record RunError → Type 0
RecordsAs last (Ok ran) = (ran.master ≡ last) × IsRecordOf last.setup ran
RecordsAs last (Err e) = (e ≡ ends.Memory) ⊎ (e ≡ ends.Torn 0)

-- What is concluded from how the threads ended: where they did well, the record of a master that settles;
-- before a full history is told, the master settles too; any other error is told as it is.
abbrev pub ConcludesAs : Setup → Result (Unit {0}) RunError → List HandValue → Result Record RunError → Type 0
ConcludesAs setup (Ok rest) hands given =
    (last : master.Job) × IsMasterOf setup last × SettlesAs last hands given (RecordsAs last given)
ConcludesAs setup (Err ends.HistoryFull) hands given =
    (last : master.Job) × IsMasterOf setup last
    × SettlesAs last hands given (given ≡ Err ends.HistoryFull)
ConcludesAs setup (Err e) hands given = given ≡ Err e
