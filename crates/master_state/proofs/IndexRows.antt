-- Scripts that end with an index.
use Rattle.std.proofs.Common.{◌≡◌, ℕ, List, [], ◌∷◌, Some, None, refl, true}
use Rattle.word_map.specs.Texts.{SplitDocuments}
use Rattle.word_map.specs.Runs.{MapView}
use Rattle.wave_problem.specs.Wave.{Split}
use Rattle.shuffle_reduce.specs.Merged.{PartView}
use Rattle.block_map.specs.declared.HolderLimit.TheVariants.{Eight}
use Rattle.master_state.specs.declared.answers.Why.TheVariants.{WrongInput, OldAttempt, NotReady}
use Rattle.master_state.specs.declared.states.SplitState.TheVariants.{Pending, Done}
use Rattle.master_state.specs.declared.states.PartState.TheVariants as part
use Rattle.master_state.specs.States.{Setup}
use Rattle.master_state.specs.Tests.{all_parts_done}
use Rattle.master_state.specs.Refusals.{MapDone, MapFailed, Withdraw, Die, ReduceStart, PartDone, PartFailed}
use Rattle.master_state.proofs.Scripts.{Move, Ask, Start, played, answers}

-- one rack, these slots, splits and texts, one part
abbrev pub job : List ℕ → List ℕ → List Split → List SplitDocuments → Setup
job racks slots splits texts = record {
  cluster = record {
    tree = record { centres = 1; centre_of = 0 ∷ []; rack_of = racks };
    slots = slots;
    splits = splits;
    texts = texts;
    parts = 1;
    silence = 3;
    holder_limit = Eight;
  };
  limits = record { events = 9; attempts = 9; sweeps = 0 };
}

abbrev pub part_of : List SplitDocuments → PartView
part_of texts = record { texts = texts; part = 0; parts = 1; pairs = [] }

-- no split at all
abbrev pub empty : Setup
empty = job (0 ∷ []) (1 ∷ []) [] []

empty_answers : answers empty (Ask ReduceStart ∷ Ask (PartDone 1 (part_of [])) ∷ [])
    ≡ None ∷ None ∷ []
empty_answers = refl

empty_done : all_parts_done (played empty (Ask ReduceStart ∷ Ask (PartDone 1 (part_of [])) ∷ [])) ≡ true
empty_done = refl

-- the text "one" of split 0, and "onf"
abbrev pub one : SplitDocuments
one = record { split = 0; documents = record { number = 0; text = 111 ∷ 110 ∷ 101 ∷ [] } ∷ [] }

abbrev pub other : SplitDocuments
other = record { split = 0; documents = record { number = 0; text = 111 ∷ 110 ∷ 102 ∷ [] } ∷ [] }

abbrev pub mapped : SplitDocuments → MapView
mapped text = record { text = text; parts = 1 }

-- one split on the one worker
abbrev pub single : Setup
single = job (0 ∷ []) (1 ∷ []) (record { bytes = 0; pending = true; holders = 0 ∷ [] } ∷ []) (one ∷ [])

abbrev pub single_script : List Move
single_script =
    Start ((0, 0) ∷ []) ∷ Ask ReduceStart ∷ Ask (MapDone 1 (mapped other)) ∷ Ask (MapDone 1 (mapped one))
    ∷ Ask ReduceStart ∷ Ask ReduceStart ∷ Ask (PartDone 2 (part_of [])) ∷ Ask
    (PartDone 2 (part_of (one ∷ one ∷ [])))
    ∷ Ask (PartDone 2 (part_of (one ∷ []))) ∷ []

single_answers : answers single single_script
    ≡ None ∷ Some NotReady ∷ Some WrongInput ∷ None ∷ None ∷ Some NotReady ∷ Some WrongInput ∷ None ∷ Some
    OldAttempt ∷ []
single_answers = refl

-- workers 0 and 1, the split on 1: the part goes to 0, and keeps its runs when 1 dies
abbrev pub pair : Setup
pair = job (0 ∷ 0 ∷ []) (1 ∷ 1 ∷ []) (record { bytes = 5; pending = true; holders = 1 ∷ [] } ∷ []) (one ∷ [])

abbrev pub to_death : List Move
to_death = Start ((0, 1) ∷ []) ∷ Ask (MapDone 1 (mapped one)) ∷ Ask ReduceStart ∷ Ask (Die 1) ∷ []

pair_answers : answers pair (Start ((0, 1) ∷ []) ∷ Ask (MapDone 1 (mapped one)) ∷ Ask ReduceStart ∷ Ask
    (Die 1) ∷ Ask (PartDone 2 (part_of (one ∷ []))) ∷ [])
    ≡ None ∷ None ∷ None ∷ None ∷ None ∷ []
pair_answers = refl

-- a death before every part is done takes the done split back
split_is_lost : (played pair to_death).splits ≡ Pending ∷ []
split_is_lost = refl

part_goes_on : (played pair to_death).parts ≡ part.Running (record { number = 2; worker = 0 }) ∷ []
part_goes_on = refl

-- a death after every part is done leaves the split done
late_death :
    (played pair (Start ((0, 1) ∷ []) ∷ Ask (MapDone 1 (mapped one)) ∷ Ask ReduceStart ∷ Ask
    (PartDone 2 (part_of (one ∷ []))) ∷ Ask (Die 1) ∷ [])).splits
    ≡ Done (record { number = 1; worker = 1 }) ∷ []
late_death = refl

-- a part that fails, or is withdrawn, is pending again, and its attempt is old
abbrev pub part_script : List Move
part_script =
    Start ((0, 0) ∷ []) ∷ Ask (MapDone 1 (mapped one)) ∷ Ask ReduceStart ∷ Ask (PartFailed 2) ∷ Ask
    (PartFailed 2)
    ∷ Ask ReduceStart ∷ Ask (MapFailed 3) ∷ Ask (Withdraw 3) ∷ Ask (PartDone 3 (part_of (one ∷ [])))
    ∷ Ask ReduceStart ∷ []

part_answers : answers single part_script
    ≡ None ∷ None ∷ None ∷ None ∷ Some OldAttempt ∷ None ∷ Some OldAttempt ∷ None ∷ Some OldAttempt ∷ None ∷
    []
part_answers = refl

part_runs_again : (played single part_script).parts ≡ part.Running (record { number = 4; worker = 0 }) ∷ []
part_runs_again = refl
