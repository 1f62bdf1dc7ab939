-- In the newest version the ranges of the places say how many bytes and slots there may be.
use Rattle.std.proofs.Common.{ℕ, List, [], ◌≡◌, ◌≤◌, Option, Some, arith, get_or, inl, inr, length, refl, subst, sym}
use Rattle.std.proofs.lemmas.Bool.{cases_lt}
use Rattle.std.proofs.lemmas.List.{get_or_past}
use Rattle.text_lines.specs.Texts.{Word, number_of}
use Rattle.line_shapes.specs.Demands.{IsWithinIn, Meet}
use Rattle.line_shapes.specs.Places.{place_at}
use Rattle.line_shapes.specs.declared.demand.Demand.TheVariants.{Range}
use Rattle.line_shapes.specs.declared.keyword.Keyword.{Keyword}
use Rattle.line_shapes.specs.declared.keyword.Keyword.TheVariants.{Split, Worker}
use Rattle.line_shapes.specs.declared.place.Place.{Place}
use Rattle.line_shapes.specs.declared.place.Place.TheVariants.{Number}
use Rattle.line_rules.specs.Faults.{IsOfSize}
use Rattle.line_rules.specs.declared.edition.Version.TheVariants.{Three}

within_place : (k : Keyword) (i most : ℕ) (ws : List Word) → place_at k i ≡ Some (Number 0 most)
    → Meet Range k ws → number_of (get_or ws i []) ≤ most
within_place k i most ws is range = elim (cases_lt i (length ws)) [
  | inl lt ↦ (subst (λ (p : Option Place). IsWithinIn p (get_or ws i [])) is (range i lt)).2
  | inr past ↦ subst (λ (w : Word). number_of w ≤ most) (sym (get_or_past ws i [] past)) (omega arith)
]

pub size_of_range : (k : Keyword) (ws : List Word) → Meet Range k ws → IsOfSize Three k ws
size_of_range Split ws range = within_place Split 1 8589934592 ws refl range
size_of_range Worker ws range = within_place Worker 2 255 ws refl range
size_of_range k ws range = tt
