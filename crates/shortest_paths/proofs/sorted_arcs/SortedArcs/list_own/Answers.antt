use Rattle.std.proofs.Common.{ap, sym, ◌∙◌}
use Rattle.flow_network.specs.declared.arcs.FlowArc.{FlowArc}
use Rattle.flow_network.specs.declared.arcs.ArcNo.TheVariants.{Forward}
use Rattle.shortest_paths.proofs.Sorting.{sink_arc_listed, inner_listed, none_read}
use Rattle.shortest_paths.proofs.sorted_arcs.SortedArcs.list_own.Goals as goal

pub returns-then-is_none-clause-listed : goal.returns-then-is_none-clause-listed
returns-then-is_none-clause-listed c = λ arcs e.
    rw (c.set_sink_arc.ensures.sink_arcs, c.set_sink_arc.ensures.inner)
    (sink_arc_listed arcs c.args.sink c.args.arc.from c.args.number c.args.self.now.sink_arcs.items
    c.args.self.now.inner.items c.requires.sink_arcs
    (none_read c.args.self.now.sink_arcs.items c.args.arc.from c.index.result.now c.is_none.result
    c.requires.sink_arcs c.index.ensures c.is_none.ensures c.if-is_none.true)
    (sym (ap (λ (x : FlowArc). x.to) e) ∙ c.if-arc-sink.true))

pub returns-clause-listed : goal.returns-clause-listed
returns-clause-listed c = λ arcs e.
    rw (c.put.ensures.sink_arcs, c.in_ok-put.ensures.inner)
    (inner_listed arcs c.args.sink c.args.arc.from (Forward c.args.number) c.args.self.now.sink_arcs.items
    c.args.self.now.inner.items c.requires.inner)
