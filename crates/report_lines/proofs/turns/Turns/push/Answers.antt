use Rattle.std.proofs.Common.{◌≤◌, ◌∷◌, [], ◌∙◌, List, ap, map, subst, sym}
use Rattle.std.proofs.lemmas.List.{map-append}
use Rattle.report_lines.specs.declared.turns.Turn.{Turn}
use Rattle.report_lines.specs.Rising.{IsRising}
use Rattle.report_lines.specs.ToldTurn.{ToldTurn, ToldTurns}
use Rattle.report_lines.specs.Turns.{told}
use Rattle.report_lines.proofs.Rise.{rising_more}
use Rattle.report_lines.proofs.turns.Turns.push.Goals as goal

pub invariant_of-self-2 : goal.invariant_of-self-2
invariant_of-self-2 c =
    let turns = c.self.inside.turns.items in
    let turn : Turn = record { before = c.args.before; events = c.args.events } in
    let more = subst (λ (t : ToldTurns). t.seen ≤ c.args.events) (sym c.self.view_is) c.requires in
    subst (λ (l : List ToldTurn). IsRising 0 l c.args.events)
    (sym (ap (map told) c.in_ok-push.ensures.items ∙ map-append told turns (turn ∷ [])))
    (rising_more 0 c.self.inside.seen (map told turns) (told turn) c.self.invariant more)
