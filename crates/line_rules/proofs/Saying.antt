-- What a line says, by how it is cut.
use Rattle.std.proofs.Common.{List, ◌∷◌, ◌≡◌, subst, sym}
use Rattle.text_lines.specs.Texts.{Line, Word}
use Rattle.line_shapes.specs.Keywords.{spelling_of}
use Rattle.line_shapes.specs.Lines.{IsShaped, Says, Statement, words_in}
use Rattle.line_shapes.specs.declared.keyword.Keyword.{Keyword}

abbrev said : Keyword → List Word → Statement
said k ws = record { keyword = k; words = ws }

says_cut : (line : Line) (k : Keyword) (ws : List Word) → words_in k line ≡ spelling_of k ∷ ws
    → IsShaped (said k ws) → Says line (said k ws)
says_cut line k ws cut shaped = record { spelled = cut; many = shaped.many; shape = shaped.shape }

pub says_same : (line : Line) (k : Keyword) (ws : List Word) (s : Statement) →
    words_in k line ≡ spelling_of k ∷ ws
    → s ≡ said k ws → IsShaped s → Says line s
says_same line k ws s cut same shaped =
    subst (Says line) (sym same) (says_cut line k ws cut (subst IsShaped same shaped))
