use Rattle.std.proofs.Common.{◌∷◌, refl, rules, subst, sym, Bor, List, ℕ}
use Rattle.text_lines.specs.Texts.{words_of}
use Rattle.line_rules.proofs.Worst.{IsWorstBefore, better_word, first_marked, first_word, worse_word}
use Rattle.line_rules.proofs.long.worst_in.Goals as goal
use Rattle.line_rules.proofs.long.worst_in.Goals.{then-has-least, else-has-least}

pub loop-least-init : goal.loop-least-init
loop-least-init c =
    let rows = c.args.rows.now in
    let version = c.args.version in
    let place = c.args.place in
    let all = words_of c.args.left.now in
    let left = words_of c.in-Some.after.now in
    let first = c.split_word.result.0 in
    let has = c.has_first-least.result in
    let follows = rw c.in-Some.is at c.split_word.ensures.words in
    let within = c.has_first-least.ensures.within in
    let less = c.has_first-least.ensures.less in
    let before : IsWorstBefore version rows place all left first.now has =
    first_word version rows place all left first.now has follows.0 within less in
    record {
      some = before.some;
      one = before.one;
      most = before.most;
      others = before.others;
      bounded = within;
      marked = first_marked version rows place all left first.now has follows.0 within less first refl 1024;
      rest_text = search rules;
      worst_text = search rules;
    }

pub loop-least-preserved : goal.loop-least-preserved
loop-least-preserved c =
    let rows = c.args.rows.now in
    let version = c.args.version in
    let place = c.args.place in
    let all = words_of c.args.left.now in
    let left = words_of c.in-Some-after.after.now in
    let word = c.split_word-in-loop-least.result.0.now in
    let worst = c.loop-least.worst.now in
    let follows = rw c.in-Some-after.is at c.split_word-in-loop-least.ensures.words in
    let from = words_of c.loop-least.rest.now in
    let before : IsWorstBefore version rows place all from worst c.loop-least.least = record {
      some = c.loop-least.invariant.some;
      one = c.loop-least.invariant.one;
      most = c.loop-least.invariant.most;
      others = c.loop-least.invariant.others;
    } in
    let here : IsWorstBefore version rows place all (word ∷ left) worst c.loop-least.least =
    subst (λ ws. IsWorstBefore version rows place all ws worst c.loop-least.least) follows.0 before in
    let less = c.has_marked-has.ensures.less in
    let enough = c.has_marked-has.ensures.enough in
    let after : IsWorstBefore version rows place all left c.if-has-least.worst.now c.if-has-least.least =
    elim c.if-has-least.branch [
      | then-has-least w ↦
          subst (λ (b : Bor (List ℕ)). IsWorstBefore version rows place all left b.now c.if-has-least.least)
          (sym w.worst-is)
          (subst (IsWorstBefore version rows place all left word) (sym w.least-is)
          (worse_word version rows place all left word worst _ _ here less enough w.if-has-least.true))
      | else-has-least w ↦
          subst (λ (b : Bor (List ℕ)). IsWorstBefore version rows place all left b.now c.if-has-least.least)
          (sym w.worst-is)
          (subst (IsWorstBefore version rows place all left worst) (sym w.least-is)
          (better_word version rows place all left word worst _ _ here less enough w.if-has-least.false))
    ] in
    record {
      some = after.some;
      one = after.one;
      most = after.most;
      others = after.others;
      bounded = search rules;
      marked = search rules;
      rest_text = search rules;
      worst_text = search rules;
    }
