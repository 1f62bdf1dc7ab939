use Rattle.std.proofs.Common.{◌∙◌, ◌<◌, List, ℕ, Bor, ap, arith, length}
use Rattle.std.proofs.lemmas.List.{get_or_default}
use Rattle.line_rules.specs.Rows.{first_by}
use Rattle.line_rules.proofs.Numbered.{none_named}
use Rattle.line_rules.proofs.rows.is_marked_twice.Goals as goal

pub loop-i-init : goal.loop-i-init
loop-i-init c = none_named c.args.firsts.now.entries c.args.names.now c.args.marked.now c.requires

pub returns-then-marked-number : goal.returns-then-marked-number
returns-then-marked-number c t =
    let inside : c.loop-i.i < length c.args.names.now = omega (arith, c.loop-i-test.true) in
    let was = c.loop-i.invariant c.in-Some.number c.if-marked-number.true in
    record {
      first = was.place;
      second = c.loop-i.i;
      number = c.in-Some.number;
      before = was.before;
      inside = inside;
      one = was.is;
      other = λ d.
          ap (λ (name : Bor (List ℕ)). first_by c.args.firsts.now.entries name.now)
          (get_or_default c.args.names.now c.loop-i.i d _ inside)
          ∙ c.in-Some.ensures.1;
    }
