use Rattle.std.proofs.Common.{◌≡◌, ◌<◌, ◌∙◌, IfSome, length, subst, sym}
use Rattle.std.specs.List.{All}
use Rattle.std.proofs.lemmas.List.{length-map}
use Rattle.line_shapes.specs.declared.keyword.Keyword.TheVariants.{Worker}
use Rattle.line_rules.specs.Known.{rows_of}
use Rattle.plan_text.specs.Names.{names_of, nth_word}
use Rattle.plan_text.proofs.Parts.{starts_within}
use Rattle.plan_text.proofs.built.build_plan.Goals as goal

pub from_starts-requires-clause-known : goal.from_starts-requires-clause-known
from_starts-requires-clause-known c =
    let rows = c.args.rows.now in
    let count : c.count.result ≡ length (names_of Worker rows) =
    c.count.ensures.value ∙ sym (length-map (rows_of Worker rows) (nth_word 0)) in
    subst (λ n. All (λ start. IfSome start (λ w. w < n)) c.in_ok-starts.starts.items) (sym count)
    (subst (All (λ start. IfSome start (λ w. w < length (names_of Worker rows)))) (sym c.in_ok-starts.ensures)
    (starts_within rows c.count.ensures.tidy))
