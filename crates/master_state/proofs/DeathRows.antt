-- Deaths in a sweep, holders that stand twice, and a return with replicas.
use Rattle.std.proofs.Common.{◌≡◌, ℕ, List, [], ◌∷◌, ◌++◌, Some, None, refl, true, false, replicate, map}
use Rattle.std.specs.List.{range_with_len}
use Rattle.word_map.specs.Texts.{SplitDocuments}
use Rattle.worker_table.specs.Workers.{worker_at}
use Rattle.block_map.specs.declared.HolderLimit.TheVariants.{Eight, Sixteen}
use Rattle.master_state.specs.declared.answers.Why.TheVariants.{DeadWorker, LiveWorker, ManyHolders}
use Rattle.master_state.specs.declared.answers.Why.TheVariants.{AlreadyHolds, NotHolder}
use Rattle.master_state.specs.declared.states.SplitState.TheVariants.{Pending, Running}
use Rattle.master_state.specs.States.{Setup, State}
use Rattle.master_state.specs.Refusals.{Die, Join, Add, Lose, Sweep, MapDone, Backup}
use Rattle.block_map.specs.Holdings.{without_worker}
use Rattle.master_state.proofs.Scripts.{Move, Ask, Start, played, answers}

abbrev pub text : ℕ → SplitDocuments
text split = record { split = split; documents = [] }

-- three workers of one rack with two slots each, three splits; a worker is dead after one silent sweep
abbrev pub job : Setup
job = record {
  cluster = record {
    tree = record { centres = 1; centre_of = 0 ∷ []; rack_of = 0 ∷ 0 ∷ 0 ∷ [] };
    slots = 2 ∷ 2 ∷ 2 ∷ [];
    splits = record { bytes = 1; pending = true; holders = 0 ∷ 1 ∷ [] }
        ∷ record { bytes = 1; pending = true; holders = 2 ∷ 0 ∷ [] }
        ∷ record { bytes = 1; pending = true; holders = 1 ∷ [] } ∷ [];
    texts = text 0 ∷ text 1 ∷ text 2 ∷ [];
    parts = 1;
    silence = 1;
    holder_limit = Eight;
  };
  limits = record { events = 19; attempts = 19; sweeps = 19 };
}

-- splits 0 and 1 are done on worker 0, or run there; split 2 runs on 1 with a backup on 2
abbrev pub begun : List Move
begun = Start ((0, 0) ∷ (1, 0) ∷ (2, 1) ∷ []) ∷ Ask (MapDone 1 (record { text = text 0; parts = 1 })) ∷ Ask
    (Backup 2 2) ∷ []

-- a sweep that hears worker 2 alone
abbrev pub counts : List ℕ
counts = 0 ∷ 0 ∷ 7 ∷ []

abbrev pub swept_state : State
swept_state = played job (begun ++ Ask (Sweep counts) ∷ [])

-- workers 0 and 1 died: what they ran and had done is pending, and the backup goes on alone
swept_splits : swept_state.splits ≡ Pending ∷ Pending ∷ Running (record { number = 4; worker = 2 }) None ∷ []
swept_splits = refl

swept_holders : swept_state.holders ≡ [] ∷ (2 ∷ []) ∷ [] ∷ []
swept_holders = refl

swept_live : map (λ worker. worker.live) swept_state.workers.each ≡ false ∷ false ∷ true ∷ []
swept_live = refl

swept_taken : map (λ worker. worker.taken) swept_state.workers.each ≡ 0 ∷ 0 ∷ 1 ∷ []
swept_taken = refl

swept_beat : (worker_at swept_state.workers 2).beat ≡ 7
swept_beat = refl

-- the counts of the dead are passed over, and a return keeps the last beat
abbrev pub to_return : List Move
to_return = begun ++ Ask (Sweep counts) ∷ Ask (Sweep (9 ∷ 9 ∷ 8 ∷ [])) ∷ Ask (Join 0 (0 ∷ 2 ∷ [])) ∷ []

abbrev pub returned : State
returned = played job to_return

returned_beat : (worker_at returned.workers 0).beat ≡ 0
returned_beat = refl

returned_live : map (λ worker. worker.live) returned.workers.each ≡ true ∷ false ∷ true ∷ []
returned_live = refl

-- it brings splits 0 and 2, and stands last in each list
returned_holders : returned.holders ≡ (0 ∷ []) ∷ (2 ∷ []) ∷ (0 ∷ []) ∷ []
returned_holders = refl

-- an entry that stood twice goes twice
no_entry_left : without_worker ((0 ∷ 1 ∷ 0 ∷ []) ∷ []) 0 ≡ (1 ∷ []) ∷ []
no_entry_left = refl

-- the tests of a replica, in their order
replica_answers : answers job (Ask (Add 0 1) ∷ Ask (Die 1) ∷ Ask (Add 0 1) ∷ Ask (Add 2 0) ∷ Ask (Lose 2 0)
    ∷ Ask (Die 1) ∷ [])
    ≡ Some AlreadyHolds ∷ None ∷ Some DeadWorker ∷ None ∷ None ∷ Some DeadWorker ∷ []
replica_answers = refl

-- nine workers, eight of which hold the one split
abbrev pub eight : Setup
eight = record {
  cluster = record {
    tree = record { centres = 1; centre_of = 0 ∷ []; rack_of = replicate 9 0 };
    slots = replicate 9 1;
    splits = record { bytes = 1; pending = true; holders = 0 ∷ 1 ∷ 2 ∷ 3 ∷ 4 ∷ 5 ∷ 6 ∷ 7 ∷ [] } ∷ [];
    texts = text 0 ∷ [];
    parts = 1;
    silence = 1;
    holder_limit = Eight;
  };
  limits = record { events = 9; attempts = 9; sweeps = 9 };
}

eight_answers : answers eight (Ask (Add 0 3) ∷ Ask (Add 0 8) ∷ Ask (Join 8 (0 ∷ [])) ∷ Ask (Die 8) ∷ Ask
    (Join 8 (0 ∷ [])) ∷ Ask (Lose 0 3) ∷ Ask (Lose 0 3) ∷ Ask (Join 8 (0 ∷ [])) ∷ [])
    ≡ Some AlreadyHolds ∷ Some ManyHolders ∷ Some LiveWorker ∷ None ∷ Some ManyHolders ∷ None ∷ Some
    NotHolder ∷ None ∷ []
eight_answers = refl

-- where a split may grow to sixteen holders, the ninth is taken, and the seventeenth is not
abbrev pub sixteen : Setup
sixteen = record eight {
  cluster = record {
    tree = record { centres = 1; centre_of = 0 ∷ []; rack_of = replicate 17 0 };
    slots = replicate 17 1;
    splits = record { bytes = 1; pending = true; holders = 0 ∷ 1 ∷ 2 ∷ 3 ∷ 4 ∷ 5 ∷ 6 ∷ 7 ∷ [] }
        ∷ record { bytes = 1; pending = true; holders = range_with_len 0 16 } ∷ [];
    texts = text 0 ∷ text 1 ∷ [];
    parts = 1;
    silence = 1;
    holder_limit = Sixteen;
  };
}

sixteen_answers : answers sixteen (Ask (Add 0 8) ∷ Ask (Add 1 16) ∷ Ask (Die 16)
    ∷ Ask (Join 16 (1 ∷ [])) ∷ Ask (Join 16 (0 ∷ [])) ∷ [])
    ≡ None ∷ Some ManyHolders ∷ None ∷ Some ManyHolders ∷ None ∷ []
sixteen_answers = refl
