use Rattle.std.proofs.Common.{List, ◌≡◌, ◌∙◌, ◌++◌, ◌∷◌, [], ap, arith, length, length-append, map, rules}
use Rattle.line_shapes.specs.Lines.{statement_of}
use Rattle.line_rules.specs.Rows.{kept_at}
use Rattle.line_rules.specs.declared.line_list.LinePlace.{LinePlace}
use Rattle.line_rules.specs.declared.line_list.LinePlace.TheVariants as place
use Rattle.line_rules.specs.declared.line_list.WordsPlace.{WordsPlace}
use Rattle.line_rules.specs.Rows.Kept.{Line}
use Rattle.line_rules.proofs.Listed.{kept_by, lines_put}
use Rattle.line_rules.proofs.line_list.LineList.push.Goals as goal

pub returns-in_err-end-clause-err : goal.returns-in_err-end-clause-err
returns-in_err-end-clause-err c =
    let all = c.add_words.new.list.items in
    let same : map (kept_at all) c.reserve.new.self.items ≡ c.args.self.now =
    ap (map (kept_at all)) c.reserve.ensures.items
    ∙ (kept_by c.self.inside.words.items c.args.line.now.words.now _ c.self.inside.places.items
    c.in_ok-add_words.ensures.ok c.self.invariant).1
    ∙ c.self.view_is in
    search rules

pub returns-clause-ok : goal.returns-clause-ok
returns-clause-ok c =
    let words = c.self.inside.words.items in
    let ps = c.self.inside.places.items in
    let long = ap length c.in_ok-add_words.ensures.ok ∙ length-append words c.args.line.now.words.now in
    let at : WordsPlace =
    record { keyword = c.args.line.now.keyword; start = c.in_ok-start.start; end = c.in_ok-end.end } in
    lines_put words c.args.line.now.words.now c.add_words.new.list.items ps c.push_reserved.new.self.items at
    c.in_ok-add_words.ensures.ok
    (c.push_reserved.ensures.items
    ∙ ap (λ (qs : List LinePlace). qs ++ place.Words at ∷ []) c.reserve.ensures.items)
    (omega (arith, c.len.ensures, c.in_ok-start.ensures))
    (omega (arith, c.len-2.ensures, c.in_ok-end.ensures, long))
    c.self.invariant
    ∙ ap (λ ks. ks ++ Line (statement_of c.args.line.now) ∷ []) c.self.view_is
