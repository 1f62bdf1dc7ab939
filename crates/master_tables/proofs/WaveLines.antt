-- The lines of the splits, each made of what stands at its place.
use Rattle.std.proofs.Common.{◌≡◌, ℕ, zero, suc, ◌<◌, List, [], ◌∷◌, length, map, drop, get_or, refl}
use Rattle.std.proofs.Common.{arith}
use Rattle.std.specs.Prelude.{slice_index_or}
use Rattle.std.proofs.lemmas.List.{length-map}
use Rattle.wave_problem.specs.Wave.{Split, Wave, IsAdmissible}
use Rattle.wave_problem.specs.Wave as wave
use Rattle.wave_problem.proofs.Bound.{pending_known}
use Rattle.block_map.specs.Holdings.{holders_of}
use Rattle.master_state.specs.Steps.{split_line}
use Rattle.master_state.proofs.Waves.{no_split}
use Rattle.master_state.proofs.Problems.{length-lines}
use Rattle.master_tables.specs.declared.entries.SplitEntry.{SplitEntry}
use Rattle.master_tables.specs.Entries.{shown_as}
use Rattle.master_tables.specs.Lines.{split_lines}

-- the lines from split i on
abbrev pub lines_from : ℕ → List Split → List SplitEntry → List (List ℕ) → List Split
lines_from i splits entries lists = split_lines (drop i splits) (map shown_as (drop i entries)) (drop i lists)

line_at : (splits : List Split) (entries : List SplitEntry) (lists : List (List ℕ)) (i : ℕ)
    (split : Split) (entry : SplitEntry) → i < length splits → length entries ≡ length splits →
    length lists ≡ length splits → split ≡ get_or splits i split → entry ≡ get_or entries i entry →
    slice_index_or (split_lines splits (map shown_as entries) lists) i no_split
    ≡ split_line split (shown_as entry) (holders_of lists i)
line_at [] entries lists i split entry inside a b at here = absurd (omega (arith, inside))
line_at (x ∷ splits) [] lists i split entry inside a b at here = absurd (omega (arith, a))
line_at (x ∷ splits) (e ∷ entries) [] i split entry inside a b at here = absurd (omega (arith, b))
line_at (x ∷ splits) (e ∷ entries) (h ∷ lists) zero split entry inside a b at here = rw (at, here) refl
line_at (x ∷ splits) (e ∷ entries) (h ∷ lists) (suc i) split entry inside a b at here =
    line_at splits entries lists i split entry (omega (arith, inside)) (omega (arith, a)) (omega (arith, b))
    at here

-- what a wave of these lines sees at the place of a split
pub seen_at : (seen : Wave) (splits : List Split) (entries : List SplitEntry) (lists : List (List ℕ))
    (i n : ℕ) (split line : Split) (entry : SplitEntry) (holders : List ℕ) →
    seen.splits ≡ split_lines splits (map shown_as entries) lists → n ≡ i → i < length splits →
    length entries ≡ length splits → length lists ≡ length splits → split ≡ get_or splits i split →
    entry ≡ get_or entries i entry → holders ≡ holders_of lists n →
    line ≡ split_line split (shown_as entry) holders → wave.split_at seen n ≡ line
seen_at seen splits entries lists i n split line entry holders of place inside a b at here held line_is =
    grind (arith, no_split, line_at)

-- a split that may start is one of them
pub split_among : (seen : Wave) (splits : List Split) (entries : List SplitEntry) (lists : List (List ℕ))
    (split w : ℕ) → seen.splits ≡ split_lines splits (map shown_as entries) lists →
    length entries ≡ length splits → length lists ≡ length splits → IsAdmissible seen split w →
    split < length splits
split_among seen splits entries lists split w of a b admissible =
    grind (arith, pending_known, length-lines, length-map)
