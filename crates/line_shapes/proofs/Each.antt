-- What holds of the words before a place, and of the one there, holds of those before the next; and the
-- words behind references meet what the words meet.
use Rattle.std.proofs.Common.{ℕ, List, [], ◌<◌, ◌+◌, length, map, get_or, subst, sym, arith}
use Rattle.std.proofs.Common.{Bor}
use Rattle.std.proofs.lemmas.Bool.{cases_lt}
use Rattle.std.proofs.lemmas.List.{get_or_default, get_or-map, length-map}
use Rattle.line_shapes.specs.Demands.{Meet, MeetIn, MeetsDemand}
use Rattle.line_shapes.specs.Places.{place_at}
use Rattle.line_shapes.specs.declared.demand.Demand.{Demand}
use Rattle.line_shapes.specs.declared.keyword.Keyword.{Keyword}

pub each_more : {X : Type 0} (P : ℕ → X → Type 0) (xs : List X) (i : ℕ) (e : X) → i < length xs
    → ((k : ℕ) (d : X) → k < i → P k (get_or xs k d)) → P i (get_or xs i e)
    → (k : ℕ) (d : X) → k < i + 1 → P k (get_or xs k d)
each_more P xs i e inside before here k d lt = grind (arith, cases_lt, get_or_default)

abbrev pub nothing : Bor (List ℕ)
nothing = record { ref_ptr = (0, 0); now = [] }

pub meet_words : (demand : Demand) (k : Keyword) (ws : List (Bor (List ℕ))) → MeetIn demand k ws
    → Meet demand k (map (λ w. w.now) ws)
meet_words demand k ws h i lt =
    let inside : i < length ws = rw length-map at lt in
    subst (MeetsDemand demand (place_at k i)) (sym (get_or-map (λ w. w.now) ws i nothing [] inside))
    (h i nothing inside)

pub meet_in : (demand : Demand) (k : Keyword) (ws : List (Bor (List ℕ))) → Meet demand k (map (λ w. w.now) ws)
    → MeetIn demand k ws
meet_in demand k ws h i d inside = grind (arith, get_or-map, length-map)
