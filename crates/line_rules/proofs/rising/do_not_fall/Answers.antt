use Rattle.std.proofs.Common.{ℕ, List, ◌≤◌, ◌<◌, ◌-◌, arith, length, map, refl}
use Rattle.std.proofs.lemmas.List.{length-map}
use Rattle.line_rules.proofs.Rises.{AreRisingTo, all_rise, one_falls, price_there, rising_more, told_at}
use Rattle.line_rules.proofs.rising.do_not_fall.Goals as goal

pub price_of-requires : goal.price_of-requires
price_of-requires c =
    price_there c.args.words.now c.requires c.loop-i.i (omega (arith, c.loop-i.invariant.past)) c.loop-i-test.true

pub price_of-requires-in-loop-i : goal.price_of-requires-in-loop-i
price_of-requires-in-loop-i c =
    price_there c.args.words.now c.requires (c.loop-i.i - 1) (omega (arith, c.loop-i.invariant.past))
    (omega (arith, c.loop-i-test.true))

pub returns-then-price_of : goal.returns-then-price_of
returns-then-price_of c =
    let words = c.args.words.now in
    let i = c.loop-i.i in
    let inside : i < length words = c.loop-i-test.true in (
      λ t. cc,
      λ rising. absurd (one_falls (map (λ w. w.now) words) i c.loop-i.invariant.past (rw length-map inside)
          (omega (
            arith,
            c.if-price_of.true,
            c.price_of.ensures,
            c.price_of-in-loop-i.ensures,
            told_at words i inside,
            told_at words (i - 1) (omega (arith, inside)),
          )) rising),
    )

pub loop-i-preserved : goal.loop-i-preserved
loop-i-preserved c =
    let words = c.args.words.now in
    let i = c.loop-i.i in
    let inside : i < length words = c.loop-i-test.true in
    record {
      past = omega (arith, c.loop-i.invariant.past);
      rising = rising_more (map (λ w. w.now) words) i c.loop-i.invariant.rising
          (omega (
            arith,
            c.if-price_of.false,
            c.price_of.ensures,
            c.price_of-in-loop-i.ensures,
            told_at words i inside,
            told_at words (i - 1) (omega (arith, inside)),
          ));
    }

pub returns : goal.returns
returns c =
    let ws : List (List ℕ) = map (λ w. w.now) c.args.words.now in (
      λ t. all_rise ws (λ k past lt. c.loop-i.invariant.rising k past
          (omega (arith, lt, length-map c.args.words.now (λ w. w.now), c.loop-i-test.false))),
      λ rising. refl,
    )
