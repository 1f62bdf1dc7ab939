-- What `Rows` keeps to while a row is put.
use Rattle.std.proofs.Common.{ℕ, List, ◌≡◌, ◌∙◌, ap, get_or, map, set, subst, sym}
use Rattle.std.proofs.Math.Seq.{map-set_same}
use Rattle.std.specs.declared.alloc.Global.{Global}
use Rattle.std.specs.declared.vec.Vec.{Vec}
use Rattle.line_shapes.specs.Lines.{Statement}
use Rattle.line_shapes.specs.declared.keyword.Keyword.{Keyword}
use Rattle.line_rules.specs.Rows.{AreNumbered, ArePlaced, AreTabled, Bars, Firsts, Kept, Others, rows_in}
use Rattle.line_rules.proofs.Placed.{number}

-- room for one place more leaves the places
pub same_places : (vs : List (Vec ℕ Global)) (k : Keyword) (v w : Vec ℕ Global) → v.items ≡ w.items
    → w ≡ get_or vs (number k) w → map (λ u. u.items) (set vs (number k) v) ≡ map (λ u. u.items) vs
same_places vs k v w same is =
    map-set_same (λ (u : Vec ℕ Global). u.items) vs (number k) v w
    (same ∙ ap (λ (u : Vec ℕ Global). u.items) is)

pub reserved : (rows : List Statement) (vs : List (Vec ℕ Global)) (k : Keyword) (v w : Vec ℕ Global)
    → v.items ≡ w.items → w ≡ get_or vs (number k) w → ArePlaced rows (map (λ u. u.items) vs)
    → ArePlaced rows (map (λ u. u.items) (set vs (number k) v))
reserved rows vs k v w same is placed = subst (ArePlaced rows) (sym (same_places vs k v w same is)) placed

abbrev pub Holds : List Kept → List (List ℕ) → Firsts → Others → Bars → Type 0
Holds ks lists firsts others bars =
    ArePlaced (rows_in ks) lists × AreTabled (rows_in ks) firsts others bars × AreNumbered ks

pub unchanged : (ks new : List Kept) (lists : List (List ℕ)) (firsts new_firsts : Firsts)
    (others new_others : Others) (bars new_bars : Bars) → new ≡ ks → new_firsts ≡ firsts → new_others ≡ others
    → new_bars ≡ bars → Holds ks lists firsts others bars → Holds new lists new_firsts new_others new_bars
unchanged ks new lists firsts new_firsts others new_others bars new_bars same one two three holds =
    let P : List Kept × Firsts × Others × Bars → Type 0 = λ t. Holds t.0 lists t.1 t.2 t.3 in
    subst P (λ i. (sym same i, sym one i, sym two i, sym three i)) holds
