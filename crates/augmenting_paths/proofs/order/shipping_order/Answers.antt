use Rattle.std.proofs.Common.{◌≡◌, List, ℕ, ◌++◌, ap, ◌∙◌, subst}
use Rattle.std.specs.List.Sorted.{IsPermutation}
use Rattle.augmenting_paths.proofs.Orders.{order_made}
use Rattle.augmenting_paths.proofs.order.shipping_order.Goals as goal

pub returns : goal.returns
returns g c =
    let both : c.append.new.self.items ≡ c.reverse.new.self.items ++ c.in_ok-others.others.items =
    rw c.in_ok-append.was at c.append.ensures.items in
    order_made c.args.sources.now c.in_ok-order.order.items c.reverse.new.self.items
    c.append.new.self.items c.min.result c.in_ok-order.ensures
    (subst (λ (xs : List ℕ). IsPermutation xs c.reverse.new.self.items) c.in_ok-others.ensures.items
    c.reverse.ensures.permutation)
    (both ∙ ap (λ (ys : List ℕ). c.reverse.new.self.items ++ ys) c.in_ok-others.ensures.tail)
