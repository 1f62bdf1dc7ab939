use Rattle.std.proofs.Common.{Option, Some, None, true, ◌≡◌, ◌∙◌, arith, sym, true≢false}
use Rattle.std.specs.Prelude.{MatchOption}
use Rattle.line_shapes.specs.Keywords.{is_of_few, spelling_of}
use Rattle.line_shapes.specs.declared.keyword.Keyword.{Keyword}
use Rattle.line_shapes.specs.declared.keyword.Keyword.TheVariants.{Split, Worker}
use Rattle.line_shapes.proofs.keyword.Keyword.of.Goals as goal

weaker : {X : Type 0} (o : Option X) (P R : Type 0) (Q : X → Type 0) → (P → R) → MatchOption o P Q
    → MatchOption o R Q
weaker None P R Q f p = f p
weaker (Some x) P R Q f q = q

pub returns-in_default : goal.returns-in_default
returns-in_default c =
    let no_split : spelling_of Split ≡ c.args.word.now → ⊥ =
    λ is. true≢false (sym (c.are_same.ensures.1 (sym is)) ∙ c.if-are_same.false) in
    let no_worker : spelling_of Worker ≡ c.args.word.now → ⊥ =
    λ is. true≢false (sym (c.are_same-2.ensures.1 (sym is)) ∙ c.if-are_same-2.false) in
    let none : ((k : Keyword) → is_of_few k ≡ true → spelling_of k ≡ c.args.word.now → ⊥)
    → (k : Keyword) → spelling_of k ≡ c.args.word.now → ⊥ =
    λ few k is. grind (arith, few, no_split, no_worker) in
    weaker c.of_few.result _ _ _ none c.of_few.ensures
