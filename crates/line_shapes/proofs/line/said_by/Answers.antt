use Rattle.std.proofs.Common.{ap, arith, length, refl}
use Rattle.std.proofs.lemmas.List.{length-map}
use Rattle.line_shapes.specs.declared.demand.Demand.TheVariants.{Shape}
use Rattle.line_shapes.proofs.Each.{meet_words}
use Rattle.line_shapes.proofs.line.said_by.Goals as goal

pub returns-then-meet : goal.returns-then-meet
returns-then-meet c = (
  refl,
  record {
    many = omega (
      arith,
      length-map c.args.words.now (λ w. w.now),
      ap length c.places.ensures,
      c.if-words-places.true,
    );
    shape = meet_words Shape c.args.keyword c.args.words.now (c.meet.ensures.0 c.if-meet.true);
  },
)
