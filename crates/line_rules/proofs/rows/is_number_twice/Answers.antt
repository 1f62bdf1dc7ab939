use Rattle.std.proofs.Common.{◌≡◌, false, replicate}
use Rattle.line_rules.proofs.Numbered.{unmarked}
use Rattle.line_rules.proofs.rows.is_number_twice.Goals as goal

pub is_marked_twice-requires : goal.is_marked_twice-requires
is_marked_twice-requires c m =
    let none : c.in-Ok.marks.items ≡ replicate 131072 false =
    c.in-Ok.ensures.items_if_clones_equal (λ _ e. e) in
    rw (c.deref_mut.ensures.value, none) (unmarked 131072 m)
