use Rattle.std.proofs.Common.{◌∷◌, ◌++◌, ◌≡◌, string_bytes, take}
use Rattle.std.specs.List.{flat_map}
use Rattle.text_lines.specs.Texts.{name_of}
use Rattle.report_lines.proofs.history.add_join.Given as goal

abbrev pub invariant-loop-split : goal.invariant-loop-split
invariant-loop-split l =
    string_bytes l.lines ≡ string_bytes l.initial.lines
    ++ flat_map (λ split. 32 ∷ name_of l.splits split) (take l.split-index l.set)
