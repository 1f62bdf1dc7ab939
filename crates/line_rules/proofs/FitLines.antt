-- Lines that say statements, each without a fault after those before it.
use Rattle.std.proofs.Common.{List, [], ◌∷◌, ◌++◌, ◌≡◌, ◌∙◌, sym, ap, append-nil, append_assoc}
use Rattle.text_lines.specs.Texts.{Line}
use Rattle.line_shapes.specs.Lines.{Statement}
use Rattle.line_rules.specs.Entered.{IsSoundBefore}
use Rattle.line_rules.specs.Known.{Known, entered, known_at}
use Rattle.line_rules.specs.declared.purpose.Purpose.{Purpose}
use Rattle.line_rules.proofs.Sound.{sound_entered}
use Rattle.line_rules.proofs.Steps.{known_at-step}
use Rattle.line_rules.specs.Reading.{AreFitLines, IsFitLine}

-- what is known after these statements more
abbrev pub names_after : Known → List Statement → Known
names_after k [] = k
names_after k (s ∷ ss) = names_after (entered k s) ss

names_from : (purpose : Purpose) (before ss : List Statement)
    → names_after (known_at purpose before) ss ≡ known_at purpose (before ++ ss)
names_from purpose before [] = ap (known_at purpose) (sym (append-nil before))
names_from purpose before (s ∷ ss) =
    ap (λ k. names_after k ss) (sym (known_at-step purpose before s))
    ∙ names_from purpose (before ++ s ∷ []) ss
    ∙ ap (known_at purpose) (append_assoc before (s ∷ []) ss)

-- what is known after all statements of a text
pub known_after : (purpose : Purpose) (ss : List Statement)
    → names_after (known_at purpose []) ss ≡ known_at purpose ss
known_after purpose ss = names_from purpose [] ss

pub fit-step : (k : Known) (ls : List Line) (ss : List Statement) (line : Line) (s : Statement)
    → AreFitLines k ls ss
    → IsFitLine (names_after k ss) line s → AreFitLines k (ls ++ line ∷ []) (ss ++ s ∷ [])
fit-step k [] [] line s fits one = (one, tt)
fit-step k (l ∷ ls) (t ∷ ts) line s fits one = (fits.0, fit-step (entered k t) ls ts line s fits.1 one)
fit-step k ls ss line s fits one = absurd fits

-- what they leave is sound
pub sound_after : (k : Known) (ls : List Line) (ss : List Statement) → AreFitLines k ls ss
    → IsSoundBefore k.version k.section k.rows
    → IsSoundBefore (names_after k ss).version (names_after k ss).section (names_after k ss).rows
sound_after k [] [] fits sound = sound
sound_after k (l ∷ ls) (s ∷ ss) fits sound =
    sound_after (entered k s) ls ss fits.1 (sound_entered k s sound fits.0.fit)
sound_after k ls ss fits sound = absurd fits
