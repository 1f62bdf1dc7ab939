-- Scripts with a backup: one split on worker 0 of two workers with a slot each.
use Rattle.std.proofs.Common.{◌≡◌, List, [], ◌∷◌, ◌++◌, Some, None, refl, true, false}
use Rattle.word_map.specs.Texts.{SplitDocuments}
use Rattle.word_map.specs.Runs.{MapView}
use Rattle.worker_table.specs.Workers.{taken_slots, is_barred}
use Rattle.block_map.specs.declared.HolderLimit.TheVariants.{Eight}
use Rattle.master_state.specs.declared.answers.Why.TheVariants.{OldAttempt, NoBackup, Barred, DeadWorker}
use Rattle.master_state.specs.declared.answers.Why.TheVariants.{NotReady}
use Rattle.master_state.specs.declared.states.Attempt.{Attempt}
use Rattle.master_state.specs.declared.states.SplitState.TheVariants.{Pending, Running, Done}
use Rattle.master_state.specs.States.{Setup, State}
use Rattle.master_state.specs.Tests.{all_parts_done}
use Rattle.master_state.specs.Refusals.{MapDone, MapFailed, Withdraw, Die, ReduceStart, PartDone, Backup}
use Rattle.master_state.specs.Refusals.{Lose}
use Rattle.master_state.proofs.Scripts.{Move, Ask, Start, played, answers}

abbrev pub one : SplitDocuments
one = record { split = 0; documents = record { number = 0; text = 111 ∷ 110 ∷ 101 ∷ [] } ∷ [] }

abbrev pub job : Setup
job = record {
  cluster = record {
    tree = record { centres = 1; centre_of = 0 ∷ []; rack_of = 0 ∷ 0 ∷ [] };
    slots = 1 ∷ 1 ∷ [];
    splits = record { bytes = 5; pending = true; holders = 0 ∷ [] } ∷ [];
    texts = one ∷ [];
    parts = 1;
    silence = 3;
    holder_limit = Eight;
  };
  limits = record { events = 9; attempts = 9; sweeps = 0 };
}

abbrev pub made : MapView
made = record { text = one; parts = 1 }

abbrev pub first : Attempt
first = record { number = 1; worker = 0 }

abbrev pub second : Attempt
second = record { number = 2; worker = 1 }

abbrev pub both : List Move
both = Start ((0, 0) ∷ []) ∷ Ask (Backup 0 1) ∷ []

both_run : (played job both).splits ≡ Running first (Some second) ∷ []
both_run = refl

-- the backup is the first to be done, and the other result is old
wins : answers job (both ++ Ask (MapDone 2 made) ∷ Ask (MapDone 1 made) ∷ Ask ReduceStart
    ∷ Ask (PartDone 3 (record { texts = one ∷ []; part = 0; parts = 1; pairs = [] })) ∷ [])
    ≡ None ∷ None ∷ None ∷ Some OldAttempt ∷ None ∷ None ∷ []
wins = refl

abbrev pub won : State
won = played job (both ++ Ask (MapDone 2 made) ∷ [])

-- which changes nothing
rival_changes_nothing : played job (both ++ Ask (MapDone 2 made) ∷ Ask (MapDone 1 made) ∷ []) ≡ won
rival_changes_nothing = refl

-- the slots of both are free
won_splits : won.splits ≡ Done second ∷ []
won_splits = refl

won_slots : taken_slots won.workers 0 ≡ taken_slots won.workers 1
won_slots = refl

won_free : taken_slots won.workers 0 ≡ 0
won_free = refl

-- the first worker dies, and the backup goes on alone
survives : (played job (both ++ Ask (Die 0) ∷ [])).splits ≡ Running second None ∷ []
survives = refl

survivor_wins : answers job (both ++ Ask (Die 0) ∷ Ask (MapDone 2 made) ∷ []) ≡ None ∷ None ∷ None ∷ None ∷ []
survivor_wins = refl

not_all_done : all_parts_done (played job (both ++ Ask (Die 0) ∷ Ask (MapDone 2 made) ∷ [])) ≡ false
not_all_done = refl

-- no backup of a split that is pending, on the worker where it runs, or of one with two attempts
refused : answers job (Ask (Backup 0 1) ∷ Start ((0, 0) ∷ []) ∷ Ask (Backup 0 0) ∷ Ask (Backup 0 1) ∷ Ask
    (Backup 0 1) ∷ [])
    ≡ Some NoBackup ∷ None ∷ Some NoBackup ∷ None ∷ Some NoBackup ∷ []
refused = refl

-- one of two fails: the other is the only one, the pair of the failed one is barred
abbrev pub failed : State
failed = played job (both ++ Ask (MapFailed 1) ∷ [])

failed_splits : failed.splits ≡ Running second None ∷ []
failed_splits = refl

failed_bars : is_barred failed.workers 0 0 ≡ true
failed_bars = refl

other_not_barred : is_barred failed.workers 0 1 ≡ false
other_not_barred = refl

failed_slots : taken_slots failed.workers 0 ≡ 0
failed_slots = refl

stays_taken : taken_slots failed.workers 1 ≡ 1
stays_taken = refl

barred_then : answers job (both ++ Ask (MapFailed 1) ∷ Ask (Backup 0 0) ∷ Ask (MapDone 1 made) ∷ Ask
    (MapDone 2 made) ∷ [])
    ≡ None ∷ None ∷ None ∷ Some Barred ∷ Some OldAttempt ∷ None ∷ []
barred_then = refl

-- one of two is withdrawn: nothing is barred, and a backup may start there again
again : answers job (both ++ Ask (Withdraw 2) ∷ Ask (Backup 0 1) ∷ Ask (MapDone 2 made) ∷ Ask (MapDone 3 made)
    ∷ [])
    ≡ None ∷ None ∷ None ∷ None ∷ Some OldAttempt ∷ None ∷ []
again = refl

withdrawn_splits : (played job (both ++ Ask (Withdraw 1) ∷ [])).splits ≡ Running second None ∷ []
withdrawn_splits = refl

withdrawn_not_barred : is_barred (played job (both ++ Ask (Withdraw 1) ∷ [])).workers 0 0 ≡ false
withdrawn_not_barred = refl

-- without one the split is pending
both_gone : (played job (both ++ Ask (Withdraw 1) ∷ Ask (MapFailed 2) ∷ [])).splits ≡ Pending ∷ []
both_gone = refl

-- the order of the tests: a dead worker first, then the attempts, then the holders
in_order : answers job (both ++ Ask (Die 1) ∷ Ask (Backup 0 1) ∷ Ask (Lose 0 0) ∷ Ask (Backup 0 0) ∷ [])
    ≡ None ∷ None ∷ None ∷ Some DeadWorker ∷ None ∷ Some NoBackup ∷ []
in_order = refl

no_holder : answers job (Start ((0, 0) ∷ []) ∷ Ask (Lose 0 0) ∷ Ask (Backup 0 1) ∷ [])
    ≡ None ∷ None ∷ Some NotReady ∷ []
no_holder = refl

-- backups that fail, are withdrawn, die and win, one after the other
abbrev pub every_way : List Move
every_way =
    both
    ++ Ask (MapFailed 1) ∷ Ask (Withdraw 2) ∷ Start ((0, 1) ∷ []) ∷ Ask (Die 0) ∷ Ask (Die 1) ∷ Ask
    (Backup 0 1) ∷ []

every_way_is : answers job every_way ≡ None ∷ None ∷ None ∷ None ∷ None ∷ None ∷ None ∷ Some DeadWorker ∷ []
every_way_is = refl
