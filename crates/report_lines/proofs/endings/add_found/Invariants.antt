use Rattle.std.proofs.Common.{◌∷◌, ◌++◌, ◌≡◌, string_bytes, take}
use Rattle.std.specs.List.{flat_map}
use Rattle.text_lines.specs.Texts.{name_of}
use Rattle.report_lines.proofs.endings.add_found.Given as goal

abbrev pub invariant-loop-document : goal.invariant-loop-document
invariant-loop-document l =
    string_bytes l.lines ≡ string_bytes l.initial.lines
    ++ flat_map (λ d. 32 ∷ name_of l.documents d) (take l.document-index l.document-items)
