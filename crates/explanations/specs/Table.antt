-- What faults, conditions, the reasons of ignored commands and statuses mean.
use Rattle.std.specs.Prelude.{◌++◌, ◌∷◌, ◌&&◌, List, [], ℕ, None, Option, Some, codes, find}
use Rattle.std.specs.List.{flat_map}
use Rattle.std.specs.Str.{bytes_eq}
use Rattle.explanations.specs.declared.table.Entry.{Entry}

-- what is told of, as `fault`, `5`, and what it means
pub record Row : Type 0 where
  pub kind : List ℕ
  pub name : List ℕ
  pub sentence : List ℕ

abbrev pub row_of : Entry → Row
row_of e = record { kind = e.kind.now; name = e.name.now; sentence = e.sentence.now }

-- the row of this kind and name, the first of them
abbrev pub row_named : List Row → List ℕ → List ℕ → Option Row
row_named rows kind name = find (λ row. bytes_eq row.kind kind && bytes_eq row.name name) rows

-- `fault 5: a number is out of its range`, and a line feed
abbrev pub line_of : Row → List ℕ
line_of row = row.kind ++ codes " " ++ row.name ++ codes ": " ++ row.sentence ++ codes "\n"

abbrev pub lines_of : List Row → List ℕ
lines_of rows = flat_map line_of rows

-- all lines, or that of one row
abbrev pub said : List Row → Option Row → List ℕ
said rows None = lines_of rows
said rows (Some row) = line_of row

-- a fault of a text
abbrev pub fault : List ℕ → List ℕ → Row
fault name sentence = record { kind = codes "fault"; name = name; sentence = sentence }

-- a condition of a certificate
abbrev pub condition : List ℕ → List ℕ → Row
condition name sentence = record { kind = codes "condition"; name = name; sentence = sentence }

-- why a command of a script was ignored
abbrev pub reason : List ℕ → List ℕ → Row
reason name sentence = record { kind = codes "ignored"; name = name; sentence = sentence }

-- a status of the program
abbrev pub status : List ℕ → List ℕ → Row
status name sentence = record { kind = codes "status"; name = name; sentence = sentence }

-- all of them, in their order
unfoldable pub table : List Row
table =
    fault (codes "1")
    (codes "the first word is no keyword, or what follows it has not the keyword's shape")
    ∷ fault (codes "2")
    (codes "a word in a name's place is no name")
    ∷ fault (codes "3")
    (codes "a name that is used is not declared, or is of another kind")
    ∷ fault (codes "4")
    (codes "a name, a setting, a barred pair, a dead worker, a busy split or a worker's places are declared twice")
    ∷ fault (codes "5")
    (codes "a number is out of its range, or prices of places fall")
    ∷ fault (codes "6")
    (codes "there are more centres, racks, workers, splits, holders, documents or commands than there may be")
    ∷ fault (codes "7")
    (codes "a line stands where it may not, the first line is another text's, or `end` is missing")
    ∷ fault (codes "8")
    (codes "a holder stands twice in one `split` line, or a split twice in one `join` line")
    ∷ fault (codes "9")
    (codes "a split is started twice, or a name is priced twice")
    ∷ fault (codes "10")
    (codes "a split or a worker has no price at `end`")
    ∷ fault (codes "11")
    (codes "the text has more than 16,777,216 bytes, or 268,435,456 in version 3")
    ∷ fault (codes "12")
    (codes "the last line has no line feed")
    ∷ fault (codes "13")
    (codes "a byte is not printable ASCII")
    ∷ fault (codes "14")
    (codes "a line stands after `end`")
    ∷ condition (codes "C1")
    (codes "a started split is pending and has a live holder")
    ∷ condition (codes "C2")
    (codes "the worker of a started split lives, and the pair is not barred")
    ∷ condition (codes "C3")
    (codes "no worker has more starts than free slots")
    ∷ condition (codes "C4")
    (codes "no price is above K, the reward of a start")
    ∷ condition (codes "C5")
    (codes "the two prices and the cost of each admissible pair come to at least K")
    ∷ condition (codes "C6")
    (codes "the two prices and the cost of each started pair come to K")
    ∷ condition (codes "C7")
    (codes "a split that is not started has the price 0")
    ∷ condition (codes "C8")
    (codes "a worker's price is at least its last taken place's and at most its next one's (0 if free)")
    ∷ reason (codes "1")
    (codes "no split and no part runs the attempt")
    ∷ reason (codes "2")
    (codes "the worker is dead")
    ∷ reason (codes "3")
    (codes "the worker lives")
    ∷ reason (codes "4")
    (codes "the worker holds the split")
    ∷ reason (codes "5")
    (codes "the worker does not hold the split")
    ∷ reason (codes "6")
    (codes "a split has eight holders, or sixteen in version 3")
    ∷ reason (codes "7")
    (codes "the reduce attempt or the backup may not start now")
    ∷ reason (codes "8")
    (codes "the result is of another text, part or number of parts")
    ∷ reason (codes "9")
    (codes "no place is left for the event, the attempts or the sweep")
    ∷ reason (codes "10")
    (codes "memory is wanting")
    ∷ reason (codes "11")
    (codes "the last call of its hand does not stand in this history")
    ∷ reason (codes "12")
    (codes "the split does not run, runs two attempts, or runs on the worker")
    ∷ reason (codes "13")
    (codes "the pair is barred")
    ∷ status (codes "0")
    (codes "planned, certified, explained, every part is done, or help")
    ∷ status (codes "1")
    (codes "a condition fails: `refused CONDITION PLACE`; or not every part is done: `stuck N`")
    ∷ status (codes "2")
    (codes "the text has a fault: `line N: fault F`")
    ∷ status (codes "3")
    (codes "want of memory")
    ∷ status (codes "4")
    (codes "a read or a write failed")
    ∷ status (codes "5")
    (codes "more than 1,000,000 attempts of a script, or no place left in a job's history")
    ∷ status (codes "6")
    (codes "a job's history is not made of its threads' calls, or a thread could not be started")
    ∷ status (codes "64")
    (codes "usage: no command is asked for, or a direct network past 1,024 splits or 256 workers or with prices of places")
    ∷ status (codes "141")
    (codes "the reader of the answer has gone")
    ∷ []
