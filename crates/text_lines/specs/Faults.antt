-- The numbers by which faults are told, and the line that tells one. Of two faults of one line the lower is
-- answered.
use Rattle.std.specs.Prelude.{ℕ, List, [], ◌∷◌, ◌++◌, codes}
use Rattle.std.specs.Fmt.{decimal}
use Rattle.text_lines.specs.declared.fault.Fault.{Fault}
use Rattle.text_lines.specs.declared.fault.TextFault.{TextFault}
use Rattle.text_lines.specs.declared.fault.Fault.TheVariants.{Shape, Misnamed, Unknown, Repeated, OutOfRange}
use Rattle.text_lines.specs.declared.fault.Fault.TheVariants.{PassesLimit, Misplaced, RepeatedHolder}
use Rattle.text_lines.specs.declared.fault.Fault.TheVariants.{SecondEntry, NoPrice, TooLong, NoFeed}
use Rattle.text_lines.specs.declared.fault.Fault.TheVariants.{Unprintable, AfterEnd}

abbrev pub number_of_fault : Fault → ℕ
number_of_fault Shape = 1
number_of_fault Misnamed = 2
number_of_fault Unknown = 3
number_of_fault Repeated = 4
number_of_fault OutOfRange = 5
number_of_fault PassesLimit = 6
number_of_fault Misplaced = 7
number_of_fault RepeatedHolder = 8
number_of_fault SecondEntry = 9
number_of_fault NoPrice = 10
number_of_fault TooLong = 11
number_of_fault NoFeed = 12
number_of_fault Unprintable = 13
number_of_fault AfterEnd = 14

-- the line that answers a text with this fault
abbrev pub fault_line : TextFault → List ℕ
fault_line fault =
    codes "line " ++ decimal fault.line ++ codes ": fault " ++ decimal (number_of_fault fault.number)
    ++ 10 ∷ []
