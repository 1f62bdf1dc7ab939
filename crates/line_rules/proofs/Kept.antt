-- What holds of words behind references holds of the words.
use Rattle.std.proofs.Common.{ℕ, List, [], ◌<◌, length, map, get_or, subst, sym, Bor}
use Rattle.std.proofs.lemmas.List.{get_or-map, length-map}
use Rattle.text_lines.specs.Texts.{Word}
use Rattle.line_shapes.proofs.Each.{nothing}

pub of_words : (P : ℕ → Word → Type 0) (ws : List (Bor (List ℕ)))
    → ((i : ℕ) (d : Bor (List ℕ)) → i < length ws → P i (get_or ws i d).now)
    → (i : ℕ) → i < length (map (λ w. w.now) ws) → P i (get_or (map (λ w. w.now) ws) i [])
of_words P ws h i lt =
    let inside : i < length ws = rw length-map at lt in
    subst (P i) (sym (get_or-map (λ w. w.now) ws i nothing [] inside)) (h i nothing inside)
