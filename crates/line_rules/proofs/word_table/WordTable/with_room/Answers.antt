use Rattle.std.proofs.Common.{List, ℕ, ◌≡◌, ◌∙◌, ◌<◌, ap, arith, get_or, length, map, replicate, subst}
use Rattle.std.proofs.Common.{sym, zero}
use Rattle.std.proofs.lemmas.List.{get_or-replicate, length-replicate}
use Rattle.line_rules.specs.WordTable.{AreChained}
use Rattle.line_rules.specs.declared.word_table.WordEntry.{WordEntry}
use Rattle.line_rules.proofs.Chained.{chained_none}
use Rattle.line_rules.proofs.word_table.WordTable.with_room.Goals as goal

pub invariant_of-result : goal.invariant_of-result
invariant_of-result c =
    let heads = c.in_ok-vec.field-0.items in
    let marks = c.next_power_of_two-marks.result in
    let some : 0 < marks = omega (arith, c.next_power_of_two-marks.ensures.lower_bound, c.clamp.ensures) in
    let all : heads ≡ replicate marks zero = c.in_ok-vec.ensures.items_if_clones_equal (λ _ e. e) in
    let long : length heads ≡ marks = ap length all ∙ length-replicate marks zero in
    let none : (m : ℕ) → m < length heads → get_or heads m 0 ≡ 0 =
    λ m lt. ap (λ hs. get_or hs m 0) all ∙ get_or-replicate marks m zero zero (omega (arith, lt, long)) in
    subst (λ (es : List WordEntry). AreChained (map (λ e. e.word.now) es) (map (λ e. e.next) es) heads)
    (sym c.in_ok-with_capacity.ensures.items) (chained_none heads (omega (arith, some, long)) none)
