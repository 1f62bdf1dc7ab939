-- For callers: a lane with two passes, the second by `share`, one of which puts while the other takes.
use Rattle.std.proofs.Common.{◌≡◌, List, [], ◌∷◌, ◌++◌, length, refl, sym, ap, ◌∙◌, subst, arith}
use Rattle.std.proofs.Common.{length-append}
use Rattle.std.proofs.lemmas.List.{append-nil}
use Rattle.lane_queue.specs.declared.order.Order.{Order}
use Rattle.lane_queue.specs.Orders.{Settles}
use Rattle.lane_queue.specs.Lanes.{PassValue, puts_of, takes_of, depths_of, one_each, AreWhole}
use Rattle.lane_queue.proofs.Gathers.{alone_none, empty_list}

-- two halves are the whole
pub two_halves : AreWhole (1 ∷ 1 ∷ [])
two_halves = record { most = 1; within = (omega arith, (omega arith, tt)); sum = refl }

-- what one pass put is what the other took, and then what is left
pub settles_two : (p q : PassValue) (left : List Order) → p.depth ≡ 1 → q.depth ≡ 1 → p.takes ≡ []
    → q.puts ≡ []
    → (AreWhole (depths_of (p ∷ q ∷ []))
    → Settles (one_each (p ∷ q ∷ [])) (puts_of (p ∷ q ∷ [])) (takes_of (p ∷ q ∷ [])) left)
    → p.puts ≡ q.takes ++ left
settles_two p q left d e t u told = grind (arith, two_halves, alone_none, append-nil)

-- where as many were taken as were put, they are those that were put
pub takes_all : (ps : List PassValue) (p q : PassValue) (left : List Order) → ps ≡ p ∷ q ∷ []
    → p.depth ≡ 1 → q.depth ≡ 1 → p.takes ≡ [] → q.puts ≡ []
    → (AreWhole (depths_of ps) → Settles (one_each ps) (puts_of ps) (takes_of ps) left)
    → length q.takes ≡ length p.puts → q.takes ≡ p.puts
takes_all ps p q left two d e t u told count =
    let told' = subst (λ l. AreWhole (depths_of l)
    → Settles (one_each l) (puts_of l) (takes_of l) left) two told in
    let is = settles_two p q left d e t u told' in
    let none : left ≡ [] = empty_list left (omega (arith, ap length is, length-append q.takes left)) in
    sym (is ∙ ap (λ l. q.takes ++ l) none ∙ append-nil q.takes)
