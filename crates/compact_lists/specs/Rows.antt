-- Rows of equal width, which stand one after another in one list.
use Rattle.std.specs.Prelude.{ℕ, zero, suc, List, [], ◌∷◌, take, drop}

-- the rows, how many there is room for, and how many elements each has
pub record RowsValue (T : Type 0) : Type 0 where
  pub rows : List (List T)
  pub room : ℕ
  pub width : ℕ

-- the first so many rows of this width of a list
abbrev pub cut_rows : {T : Type 0} → ℕ → ℕ → List T → List (List T)
cut_rows width zero items = []
cut_rows width (suc n) items = take width items ∷ cut_rows width n (drop width items)
