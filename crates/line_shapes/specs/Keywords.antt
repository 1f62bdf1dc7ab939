-- The first words of lines.
use Rattle.std.specs.Prelude.{ℕ, Bool, List, codes, false, true}
use Rattle.line_shapes.specs.declared.keyword.Keyword.{Keyword}
use Rattle.line_shapes.specs.declared.keyword.Keyword.TheVariants.{Problem, Script, Job, Centre, Rack}
use Rattle.line_shapes.specs.declared.keyword.Keyword.TheVariants.{Worker, Split, Barred, Dead, Busy, Parts}
use Rattle.line_shapes.specs.declared.keyword.Keyword.TheVariants.{Target, Silence, Doc, Plan, Start, Price}
use Rattle.line_shapes.specs.declared.keyword.Keyword.TheVariants.{Begin, Wave, Ahead, Done, Fail, Withdraw}
use Rattle.line_shapes.specs.declared.keyword.Keyword.TheVariants.{Die, Join, Add, Lose, Sweep, Reduce}
use Rattle.line_shapes.specs.declared.keyword.Keyword.TheVariants.{Copies, Backup, End, Places}

abbrev pub spelling_of : Keyword → List ℕ
spelling_of Problem = codes "problem"
spelling_of Script = codes "script"
spelling_of Job = codes "job"
spelling_of Centre = codes "centre"
spelling_of Rack = codes "rack"
spelling_of Worker = codes "worker"
spelling_of Split = codes "split"
spelling_of Barred = codes "barred"
spelling_of Dead = codes "dead"
spelling_of Busy = codes "busy"
spelling_of Places = codes "places"
spelling_of Parts = codes "parts"
spelling_of Target = codes "target"
spelling_of Silence = codes "silence"
spelling_of Doc = codes "doc"
spelling_of Plan = codes "plan"
spelling_of Start = codes "start"
spelling_of Price = codes "price"
spelling_of Begin = codes "begin"
spelling_of Wave = codes "wave"
spelling_of Ahead = codes "ahead"
spelling_of Done = codes "done"
spelling_of Fail = codes "fail"
spelling_of Withdraw = codes "withdraw"
spelling_of Die = codes "die"
spelling_of Join = codes "join"
spelling_of Add = codes "add"
spelling_of Lose = codes "lose"
spelling_of Sweep = codes "sweep"
spelling_of Reduce = codes "reduce"
spelling_of Copies = codes "copies"
spelling_of Backup = codes "backup"
spelling_of End = codes "end"

-- few lines begin with it
abbrev pub is_of_few : Keyword → Bool
is_of_few Barred = true
is_of_few Dead = true
is_of_few Busy = true
is_of_few Places = true
is_of_few Centre = true
is_of_few Parts = true
is_of_few Target = true
is_of_few Silence = true
is_of_few Begin = true
is_of_few Plan = true
is_of_few End = true
is_of_few Problem = true
is_of_few Script = true
is_of_few Job = true
is_of_few _ = false
