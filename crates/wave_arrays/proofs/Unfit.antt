-- Rows among which none is found unfit are all fit.
use Rattle.std.proofs.Common.{ℕ, List, [], ◌∷◌, ◌≡◌, ◌<◌, Bool, true, false, not, Option, Some, None, arith}
use Rattle.std.proofs.Common.{refl, sym, true≢false}
use Rattle.std.specs.Prelude.{◌↔◌, All, IsTrue}
use Rattle.std.specs.Option.{is_some}
use Rattle.wave_arrays.specs.Places.{IsFirstUnfit}

module _ {Row : Type 0} (IsFit : Row → Type 0) where
  one_unfit : (rows : List Row) (place : ℕ) → IsFirstUnfit IsFit rows (Some place) → All IsFit rows → ⊥
  one_unfit [] place unfit all = let inside : place < 0 = unfit.0 in omega (arith, inside)
  one_unfit (row ∷ rows) place unfit all = unfit.1 row (all place row unfit.0)

  pub none_unfit : (rows : List Row) (found : Option ℕ) (b : Bool) → IsFirstUnfit IsFit rows found
      → is_some found ≡ not b → IsTrue b ↔ All IsFit rows
  none_unfit rows None true all is = (λ _. all, λ _. refl)
  none_unfit rows None false all is = absurd (true≢false (sym is))
  none_unfit rows (Some place) true unfit is = absurd (true≢false is)
  none_unfit rows (Some place) false unfit is =
      (λ none. absurd (true≢false (sym none)), λ all. absurd (one_unfit rows place unfit all))
