-- The answer to a line with a fault.
use Rattle.std.specs.Prelude.{ℕ, ◌≡◌, ◌++◌, ◌∷◌, [], List, codes}
use Rattle.std.specs.Fmt.{decimal}
use Rattle.text_lines.specs.Faults.{number_of_fault}
use Rattle.text_lines.specs.declared.fault.Fault.{Fault}

abbrev pub refusal_line : Fault → List ℕ
refusal_line fault = codes "fault " ++ decimal (number_of_fault fault) ++ 10 ∷ []

abbrev pub IsRefusal : List ℕ → Type 0
IsRefusal answer = (fault : Fault) × (answer ≡ refusal_line fault)
