use Rattle.std.proofs.Common.{List, ℕ, map, subst, sym}
use Rattle.std.specs.List.Sorted.{IsPermutation}
use Rattle.std.proofs.lemmas.List.Sorted.{Contains-permutation, IsPermutation-sym}
use Rattle.std.proofs.lemmas.Result.{IfOk-weaker}
use Rattle.line_shapes.specs.declared.keyword.Keyword.TheVariants.{Barred, Split, Worker}
use Rattle.line_rules.specs.Known.{rows_of}
use Rattle.plan_text.specs.Names.{names_of}
use Rattle.plan_text.specs.Value.{declared_bar}
use Rattle.plan_text.proofs.built.build_barred.Goals as goal

pub returns : goal.returns
returns c =
    let rows = c.args.rows.now in
    let told : List (ℕ × ℕ) = map (declared_bar (names_of Split rows) (names_of Worker rows)) (rows_of Barred rows) in
    let same : IsPermutation told c.deref.result.now =
    subst (λ (pairs : List (ℕ × ℕ)). IsPermutation told pairs) (sym c.deref.ensures.value)
    c.in_ok-pairs.ensures.same in
    IfOk-weaker c.set_of.result _ _ (λ set members s w. (
      (λ has. Contains-permutation _ _ (s, w) (IsPermutation-sym _ _ same) ((members s w).0 has)),
      (λ has. (members s w).1 (Contains-permutation _ _ (s, w) same has)),
    )) c.set_of.ensures
