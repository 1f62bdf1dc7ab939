-- A text whose lines fit, and end, reads as what they say.
use Rattle.std.proofs.Common.{ℕ, List, [], ◌∷◌, ◌++◌, ◌≡◌, ◌+◌, ◌≤◌, ◌<◌, inl, length, refl}
use Rattle.std.proofs.Common.{subst, arith, length-append}
use Rattle.std.proofs.Math.Seq.{take-append_seam}
use Rattle.std.proofs.lemmas.Grind.{common_steps}
use Rattle.text_lines.specs.Streams.{longest}
use Rattle.text_lines.specs.Texts.{Line, lines_of}
use Rattle.line_shapes.specs.Lines.{Statement}
use Rattle.line_rules.specs.Known.{Known, entered, known_at}
use Rattle.line_rules.specs.Reading.{AreFitLines, IsAllRead, IsFitLine, Takes}
use Rattle.line_rules.specs.Texts.{Declare, ReadsAs}
use Rattle.line_rules.specs.declared.purpose.Purpose.{Purpose}
use Rattle.line_rules.specs.declared.section.Section.TheVariants.{Ended}
use Rattle.line_rules.proofs.FitLines.{names_after}
use Rattle.line_rules.proofs.OneReading.{declare-unique}
use Rattle.line_rules.proofs.ReadTo.{IsReadTo, read_more, read_none, reads_all}

fit-declare : (k : Known) (ls : List Line) (ss : List Statement) → AreFitLines k ls ss → Declare ls ss
fit-declare k [] [] fits = tt
fit-declare k (l ∷ ls) (t ∷ ts) fits = inl (fits.0.says, fit-declare (entered k t) ls ts fits.1)
fit-declare k ls ss fits = absurd fits

-- lines that fit after these statements, then lines that fit after those
pub fit-append : (k : Known) (ls more : List Line) (ss ts : List Statement) → AreFitLines k ls ss
    → AreFitLines (names_after k ss) more ts → AreFitLines k (ls ++ more) (ss ++ ts)
fit-append k [] more [] ts fits rest = rest
fit-append k (l ∷ ls) more (s ∷ ss) ts fits rest =
    (fits.0, fit-append (entered k s) ls more ss ts fits.1 rest)
fit-append k ls more ss ts fits rest = absurd fits

fit_taken : (k : Known) (line : Line) (s : Statement) → IsFitLine k line s → Takes k line (entered k s)
fit_taken k line s fits = grind arith

some_left : (ls : List Line) (last : Line) → 0 < length (ls ++ last ∷ [])
some_left ls last = omega (arith, length-append ls (last ∷ []))

-- the lines are read one by one
read_fit : (purpose : Purpose) (text : List ℕ) (ls : List Line) (ss : List Statement) (n : ℕ) (k : Known)
    → IsReadTo purpose text (ls ++ [] ∷ []) n k → AreFitLines k ls ss
    → (m : ℕ) × IsReadTo purpose text ([] ∷ []) m (names_after k ss)
read_fit purpose text [] [] n k read fits = (n, read)
read_fit purpose text (l ∷ ls) (s ∷ ss) n k read fits =
    read_fit purpose text ls ss (n + 1) (entered k s)
    (read_more purpose text (l ∷ ls ++ [] ∷ []) l (ls ++ [] ∷ []) n k (entered k s) read refl
    (some_left ls [])
    (fit_taken k l s fits.0)) fits.1
read_fit purpose text ls ss n k read fits = absurd fits

-- the lines that fit are all but the last, so what the text says is what they say
same_statements : (purpose : Purpose) (text : List ℕ) (ls : List Line) (ss ts : List Statement)
    → lines_of text ≡ ls ++ [] ∷ [] → AreFitLines (known_at purpose []) ls ss → ReadsAs purpose text ts →
    ts ≡ ss
same_statements purpose text ls ss ts lines fits reads =
    grind (arith, common_steps, length-append, take-append_seam, declare-unique, fit-declare)

pub reads_fit : (purpose : Purpose) (text : List ℕ) (ls : List Line) (ss : List Statement)
    → length text ≤ longest text → lines_of text ≡ ls ++ [] ∷ [] → AreFitLines (known_at purpose []) ls ss
    → (names_after (known_at purpose []) ss).section ≡ Ended → ReadsAs purpose text ss
reads_fit purpose text ls ss short lines fits ended =
    let start = known_at purpose [] in
    let none : IsReadTo purpose text (ls ++ [] ∷ []) 0 start =
    subst (λ left. IsReadTo purpose text left 0 start) lines (read_none purpose text start refl) in
    let read = read_fit purpose text ls ss 0 start none fits in
    let all : IsAllRead purpose text (names_after start ss) =
    reads_all purpose text ([] ∷ []) read.0 _ short read.1 refl ended in
    subst (ReadsAs purpose text) (same_statements purpose text ls ss all.statements lines fits all.reads)
    all.reads
