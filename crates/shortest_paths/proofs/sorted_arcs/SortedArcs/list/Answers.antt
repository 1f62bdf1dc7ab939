use Rattle.std.proofs.Common.{◌≡◌, ◌<◌, [], ◌∷◌, ◌++◌, length, false, get_or, set, sym, subst, arith}
use Rattle.flow_network.specs.declared.arcs.FlowArc.{FlowArc}
use Rattle.flow_network.specs.declared.arcs.ArcNo.TheVariants.{Forward, Reverse}
use Rattle.shortest_paths.specs.Sorted.{AreListed, IsListed}
use Rattle.shortest_paths.proofs.Sorting.{source_more, listed_more, inner_listed}
use Rattle.shortest_paths.proofs.sorted_arcs.SortedArcs.list.Goals as goal

pub returns-then-is_source-arc-clause-listed : goal.returns-then-is_source-arc-clause-listed
returns-then-is_source-arc-clause-listed c = λ arcs some e size t.
    rw e (source_more arcs some c.args.is_source.now c.args.sink c.args.number c.args.self.now.sink_arcs.items
    c.args.self.now.inner.items size (rw e at c.requires.no_entry) t (rw e at c.if-is_source-arc.true))

pub returns-clause-listed : goal.returns-clause-listed
returns-clause-listed c = λ arcs some e size t.
    let inside : c.args.arc.to < length c.list_own.new.self.inner.items =
    (let l = c.requires.to in let a = c.requires.inner in let b = c.in_ok-list_own.ensures.inner in
    omega arith) in
    let back = inner_listed arcs c.args.sink c.args.arc.to (Reverse c.args.number)
    c.list_own.new.self.sink_arcs.items c.list_own.new.self.inner.items inside in
    rw (c.put.ensures.sink_arcs, c.in_ok-put.ensures.inner)
    (subst (λ (x : FlowArc). AreListed arcs c.args.is_source.now c.args.sink (some ++ x ∷ [])
    c.list_own.new.self.sink_arcs.items (set c.list_own.new.self.inner.items c.args.arc.to
    (get_or c.list_own.new.self.inner.items c.args.arc.to [] ++ Reverse c.args.number ∷ []))) (sym e)
    (listed_more arcs some c.args.is_source.now c.args.sink c.args.number c.args.self.now.sink_arcs.items
    c.args.self.now.inner.items size
    (subst (λ (x : FlowArc). get_or c.args.is_source.now x.to false ≡ false) e c.requires.no_entry) t
    c.list_own.new.self.sink_arcs.items c.list_own.new.self.sink_arcs.items c.list_own.new.self.inner.items _
    (subst (λ (x : FlowArc). get_or c.args.is_source.now x.from false ≡ false) e c.if-is_source-arc.false)
    (subst (λ (x : FlowArc). IsListed arcs c.args.sink x.from (Forward c.args.number)
    c.args.self.now.sink_arcs.items c.args.self.now.inner.items c.list_own.new.self.sink_arcs.items
    c.list_own.new.self.inner.items) e (c.in_ok-list_own.ensures.listed arcs e))
    (subst (λ (x : FlowArc). IsListed arcs c.args.sink x.to (Reverse c.args.number)
    c.list_own.new.self.sink_arcs.items c.list_own.new.self.inner.items c.list_own.new.self.sink_arcs.items
    (set c.list_own.new.self.inner.items c.args.arc.to
    (get_or c.list_own.new.self.inner.items c.args.arc.to [] ++ Reverse c.args.number ∷ []))) e back)))
