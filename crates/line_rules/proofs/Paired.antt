-- Lines that are the first of their key, and lines that bar a pair whose names are declared.
use Rattle.std.proofs.Common.{[], ℕ, List, ◌∷◌, ◌≡◌, ◌==◌, ◌<◌, arith, false, length, refl}
use Rattle.std.proofs.Common.{suc, sym, zero}
use Rattle.text_lines.specs.Texts.{Word}
use Rattle.line_shapes.specs.Lines.{Statement}
use Rattle.line_shapes.specs.declared.keyword.Keyword.TheVariants.{Split, Worker}
use Rattle.line_rules.specs.Entered.{AreFit}
use Rattle.line_rules.specs.Faults.{IsFirst, IsFirstOfHead}
use Rattle.line_rules.specs.Known.{HasNumber}
use Rattle.line_rules.specs.Rows.{IsBarOf, bar_said}
use Rattle.line_rules.specs.declared.edition.Version.{Version}
use Rattle.line_rules.specs.declared.section.Section.{Section}
use Rattle.line_rules.specs.declared.section.Section.TheVariants.{Head}
use Rattle.line_rules.proofs.Barred.{name_of}
use Rattle.line_rules.proofs.OfKeyword.{numbered_there}

pub first_of_head : (after : Section) (rows : List Statement) (s : Statement) → IsFirst rows s
    → IsFirstOfHead after rows s
first_of_head Head rows s first = first
first_of_head after rows s first = tt

pub some_length : (w : Word) → (length w == 0) ≡ false → 0 < length w
some_length [] is = cc
some_length (b ∷ bs) is = omega arith

module _ (rows : List Statement) (first second : Word) (split worker : ℕ)
    (one : HasNumber rows (Split, first, []) split) (two : HasNumber rows (Worker, second, []) worker) where
  -- the rows of its two names have the numbers of its pair
  pub pair_numbered : IsBarOf rows (bar_said first second) (split, worker)
  pair_numbered = record {
    within = (one.inside, two.inside);
    is = λ i. bar_said (sym (name_of Split refl rows first split one) i)
        (sym (name_of Worker refl rows second worker two) i);
  }

  -- its words are fit
  pub pair_fit : (version : Version) → 0 < length first → 0 < length second
      → AreFit version rows (bar_said first second)
  pair_fit version some other zero lt = (some, numbered_there rows (Split, first, []) split one)
  pair_fit version some other (suc zero) lt = (other, numbered_there rows (Worker, second, []) worker two)
  pair_fit version some other (suc (suc i)) lt = absurd (omega (arith, lt))
