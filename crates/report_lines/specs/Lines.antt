-- The lines of a report.
use Rattle.std.specs.Prelude.{ℕ, List, [], ◌∷◌, ◌++◌, Bool, not, if◌then◌else◌, codes, count_by, length}
use Rattle.std.specs.Prelude.{slice_index_or}
use Rattle.std.specs.Fmt.{decimal}
use Rattle.std.specs.List.{flat_map}
use Rattle.text_lines.specs.Texts.{Word, name_of, numbers_of}
use Rattle.word_map.specs.Entries.{EntryView}
use Rattle.block_map.specs.declared.CopyOrder.{CopyOrder}
use Rattle.master_state.specs.declared.answers.Answer.TheVariants as answer
use Rattle.master_state.specs.declared.answers.Why.{Why}
use Rattle.master_state.specs.declared.answers.Why.TheVariants as why
use Rattle.master_state.specs.declared.states.SplitState.{SplitState}
use Rattle.master_state.specs.declared.states.SplitState.TheVariants.{Pending}
use Rattle.master_state.specs.Tests.{is_done}
use Rattle.master_state.specs.Jobs.{Plain}

-- a line for each of these numbers of which the test is true
abbrev pub lines_of_those : (ℕ → Bool) → (ℕ → List ℕ) → List ℕ → List ℕ
lines_of_those test line numbers = flat_map (λ n. if test n then line n else []) numbers

-- ---- answers

-- the number by which a reason is told
abbrev pub number_of_reason : Why → ℕ
number_of_reason why.OldAttempt = 1
number_of_reason why.DeadWorker = 2
number_of_reason why.LiveWorker = 3
number_of_reason why.AlreadyHolds = 4
number_of_reason why.NotHolder = 5
number_of_reason why.ManyHolders = 6
number_of_reason why.NotReady = 7
number_of_reason why.WrongInput = 8
number_of_reason why.HistoryFull = 9
number_of_reason why.Memory = 10
number_of_reason why.StrangeHand = 11
number_of_reason why.NoBackup = 12
number_of_reason why.Barred = 13

abbrev pub accepted_line : ℕ → List ℕ
accepted_line place = codes "accepted " ++ decimal place ++ 10 ∷ []

abbrev pub ignored_line : Why → List ℕ
ignored_line why = codes "ignored " ++ decimal (number_of_reason why) ++ 10 ∷ []

abbrev pub answer_line : Plain → List ℕ
answer_line (answer.Accepted place rest) = accepted_line place
answer_line (answer.Ignored why rest) = ignored_line why

-- ---- what follows the line of an accepted call; workers, splits and documents stand by their names

-- an attempt of a split, on a worker
abbrev pub started_line : List Word → List Word → ℕ → ℕ → ℕ → List ℕ
started_line splits workers attempt split w =
    codes "start " ++ decimal attempt ++ codes " " ++ name_of splits split ++ codes " " ++ name_of workers w
    ++ 10 ∷ []

-- how many splits start of a plan ahead, at which byte-distance
abbrev pub ahead_line : ℕ → ℕ → List ℕ
ahead_line count cost = codes "ahead " ++ decimal count ++ codes " " ++ decimal cost ++ 10 ∷ []

-- how many splits the whole plan has, at which byte-distance
abbrev pub queued_line : ℕ → ℕ → List ℕ
queued_line count cost = codes "queued " ++ decimal count ++ codes " " ++ decimal cost ++ 10 ∷ []

abbrev pub backup_line : List Word → List Word → ℕ → ℕ → ℕ → List ℕ
backup_line splits workers attempt split w =
    codes "backup " ++ decimal attempt ++ codes " " ++ name_of splits split ++ codes " " ++ name_of workers w
    ++ 10 ∷ []

-- an attempt of a part, on a worker
abbrev pub reduce_line : List Word → ℕ → ℕ → ℕ → List ℕ
reduce_line workers attempt part w =
    codes "reduce " ++ decimal attempt ++ codes " " ++ decimal part ++ codes " " ++ name_of workers w
    ++ 10 ∷ []

abbrev pub dead_line : List Word → ℕ → List ℕ
dead_line workers w = codes "dead " ++ name_of workers w ++ 10 ∷ []

-- a line for each of these
abbrev pub dead_lines : List Word → List ℕ → List ℕ
dead_lines workers dead = flat_map (dead_line workers) dead

-- ---- copy orders

abbrev pub copy_line : List Word → List Word → CopyOrder → List ℕ
copy_line splits workers order =
    codes "copy " ++ name_of splits order.split ++ codes " " ++ name_of workers order.from ++ codes " "
    ++ name_of workers order.to ++ 10 ∷ []

abbrev pub copy_lines : List Word → List Word → List CopyOrder → List ℕ
copy_lines splits workers orders =
    codes "copies " ++ decimal (length orders) ++ 10 ∷ [] ++ flat_map (copy_line splits workers) orders

-- ---- the end: the index, or the splits that are not done

-- a word, then its documents
abbrev pub found_line : List Word → EntryView → List ℕ
found_line documents entry =
    codes "word " ++ entry.word ++ flat_map (λ d. 32 ∷ name_of documents d) entry.documents ++ 10 ∷ []

abbrev pub word_lines : List Word → List EntryView → List ℕ
word_lines documents entries = flat_map (found_line documents) entries

-- how many words the index has
abbrev pub index_count : ℕ → List ℕ
index_count count = codes "index " ++ decimal count ++ 10 ∷ []

abbrev pub index_lines : List Word → List EntryView → List ℕ
index_lines documents entries = index_count (length entries) ++ word_lines documents entries

abbrev pub is_open : List SplitState → ℕ → Bool
is_open states split = not (is_done (slice_index_or states split Pending))

abbrev pub open_line : List Word → ℕ → List ℕ
open_line splits split = codes "open " ++ name_of splits split ++ 10 ∷ []

abbrev pub stuck_lines : List Word → List SplitState → List ℕ
stuck_lines splits states =
    codes "stuck " ++ decimal (count_by (λ state. not (is_done state)) states) ++ 10 ∷ []
    ++ lines_of_those (is_open states) (open_line splits) (numbers_of splits)
