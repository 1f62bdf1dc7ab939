use Rattle.std.proofs.Common.{None, ap, get_or, ◌∙◌, sym}
use Rattle.augmenting_paths.proofs.TightPath.{sink_arc_on, two_arcs}
use Rattle.augmenting_paths.proofs.straight.arc_on.Goals as goal

pub is_tight-requires-then-number_of-on-clause-listed : goal.is_tight-requires-then-number_of-on-clause-listed
is_tight-requires-then-number_of-on-clause-listed g c =
    (sink_arc_on c.requires.may.lists (sym c.sink_arc.ensures ∙ c.in-Some.is)).0

pub returns-then-is_tight : goal.returns-then-is_tight
returns-then-is_tight g c = two_arcs c.requires.may.lists
    (sym (c.sink_arc.ensures ∙ ap (λ v. get_or c.args.query.now.lists.now.sink_arcs v None) c.view-middle.ensures.to)
    ∙ c.in-Some.is)
    c.requires.own.from (λ e. c.if-number_of-on.true (c.number_of.ensures ∙ e))
    (c.is_tight.ensures c.if-not-is_tight.false) (c.is_tight-then-number_of-on.ensures c.if-is_tight.true)
