-- The line that tells a wave, in the answer to a problem and in a report: how many splits start, at which
-- byte-distance.
use Rattle.std.specs.Prelude.{ℕ, List, [], ◌∷◌, ◌++◌, codes}
use Rattle.std.specs.Fmt.{decimal}

abbrev pub wave_line : ℕ → ℕ → List ℕ
wave_line count cost = codes "wave " ++ decimal count ++ codes " " ++ decimal cost ++ 10 ∷ []
