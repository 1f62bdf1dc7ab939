use Rattle.std.proofs.Common.{◌≡◌, ◌≢◌, ◌∙◌, ◌-◌, ◌<◌, [], ap, arith, get_or, length, sym, true≢false}
use Rattle.std.proofs.lemmas.List.{length-map}
use Rattle.line_shapes.specs.declared.keyword.Keyword.TheVariants.{Problem}
use Rattle.line_rules.specs.WordTable.{mark_of, word_at}
use Rattle.line_rules.specs.declared.word_table.WordEntry.{WordEntry}
use Rattle.line_rules.proofs.Chained.{found_none, found_one, link_at, none_on, word_in, words_of}
use Rattle.line_rules.proofs.word_table.find.Goals as goal

abbrev any : WordEntry
any = record { word = record { ref_ptr = (0, 0); now = [] }; of = (Problem, 0); next = 0 }

pub loop-at-init : goal.loop-at-init
loop-at-init c =
    let link = c.requires.chained.first c.args.mark c.requires.within in
    let long = length-map c.args.entries.now (λ e. e.word.now) in
    record {
      within = omega (arith, link.within, long);
      last = λ j is. link.last j is ∙ c.requires.marked;
      none = λ j low below is. link.none j low (omega (arith, below, long))
          (ap (λ w. mark_of w (length c.args.heads.now)) is ∙ sym c.requires.marked);
    }

pub returns-then-are_same : goal.returns-then-are_same
returns-then-are_same c =
    let es = c.args.entries.now in
    let i = c.loop-at.at - 1 in
    let inside : i < length es = omega (arith, c.loop-at.invariant.within, c.loop-at-test.true) in
    let is : (get_or es i any).word.now ≡ c.args.word.now =
    c.are_same.ensures.0 c.if-are_same.true in
    let within : i < length (words_of es) = omega (arith, inside, length-map es (λ e. e.word.now)) in
    sym (found_one es c.args.word.now i any inside is
    (λ j below same. c.requires.chained.apart j i below within (same ∙ sym (word_in es i any inside ∙ is))))

pub overflow_cast-at-in-loop-at : goal.overflow_cast-at-in-loop-at
overflow_cast-at-in-loop-at c =
    let es = c.args.entries.now in
    let i = c.loop-at.at - 1 in
    let inside : i < length es = omega (arith, c.loop-at.invariant.within, c.loop-at-test.true) in
    let link = link_at es c.args.heads.now c.requires.chained i any inside in
    omega (arith, link.within, c.loop-at.auto.at-fits)

pub loop-at-smaller : goal.loop-at-smaller
loop-at-smaller c =
    let es = c.args.entries.now in
    let i = c.loop-at.at - 1 in
    let inside : i < length es = omega (arith, c.loop-at.invariant.within, c.loop-at-test.true) in
    let link = link_at es c.args.heads.now c.requires.chained i any inside in
    omega (arith, link.within, c.loop-at-test.true)

pub loop-at-preserved : goal.loop-at-preserved
loop-at-preserved c =
    let es = c.args.entries.now in
    let marks = length c.args.heads.now in
    let word = c.args.word.now in
    let at = c.loop-at.at in
    let i = at - 1 in
    let inside : i < length es = omega (arith, c.loop-at.invariant.within, c.loop-at-test.true) in
    let link = link_at es c.args.heads.now c.requires.chained i any inside in
    let mark = c.loop-at.invariant.last i (omega (arith, c.loop-at-test.true)) in
    let long = length-map es (λ e. e.word.now) in
    let other : word_at (words_of es) i ≢ word =
    λ is. true≢false (sym (c.are_same.ensures.1 (sym (word_in es i any inside) ∙ is)) ∙ c.if-are_same.false) in
    record {
      within = omega (arith, link.within, inside);
      last = λ j is. link.last j is ∙ mark;
      none = λ j low below. none_on (words_of es) word at (get_or es i any).next marks link mark other
          (λ k above lt. c.loop-at.invariant.none k above (omega (arith, lt, long))) j low
          (omega (arith, below, long));
    }

pub returns : goal.returns
returns c =
    sym (found_none c.args.entries.now c.args.word.now
    (λ j lt. c.loop-at.invariant.none j (omega (arith, c.loop-at-test.false)) lt))
