use Rattle.std.proofs.Common.{ℕ, ◌≡◌, ◌<◌, ◌∙◌, ◌++◌, ◌∷◌, [], ap, arith, length, max, subst, sym, unwrap_or}
use Rattle.std.specs.List.{All}
use Rattle.std.proofs.lemmas.List.{map_more}
use Rattle.std.proofs.lemmas.List.Elements.{All-append, All-cons, All-nil}
use Rattle.line_shapes.specs.declared.keyword.Keyword.TheVariants.{Centre, Rack}
use Rattle.line_rules.specs.Known.{nth_row, rows_of}
use Rattle.plan_text.specs.Names.{names_of}
use Rattle.plan_text.specs.Value.{centre_number, number_in}
use Rattle.plan_text.proofs.Numbers.{number_below}
use Rattle.plan_text.proofs.built.centres_of_racks.Goals as goal

pub loop-rack-preserved : goal.loop-rack-preserved
loop-rack-preserved c =
    let rows = c.args.rows.now in
    let i = c.loop-rack.rack in
    let centres = names_of Centre rows in
    let P : ℕ → Type 0 = λ centre. centre < max 1 (length centres) in
    let inside : i < length (rows_of Rack rows) =
    omega (arith, c.loop-rack-test.true, c.count-count.ensures.value) in
    let value : c.new.result ≡ centre_number centres (nth_row Rack i rows) =
    c.new.ensures ∙ c.unwrap_or-centre.ensures ∙ ap (λ o. unwrap_or o 0) c.number.ensures
    ∙ ap (number_in centres) c.word-name.ensures in
    let items = c.in_ok-push.ensures.items ∙ (λ j. c.loop-rack.invariant.0 j ++ value j ∷ []) in
    let within : P (centre_number centres (nth_row Rack i rows)) = number_below centres _ in (
      items ∙ sym (map_more (centre_number centres) (rows_of Rack rows) i _ inside),
      subst (All P) (sym c.in_ok-push.ensures.items)
          (All-append P c.loop-rack.centres.items (c.new.result ∷ []) c.loop-rack.invariant.1
          (All-cons P c.new.result [] (subst P (sym value) within) (All-nil P))),
    )
