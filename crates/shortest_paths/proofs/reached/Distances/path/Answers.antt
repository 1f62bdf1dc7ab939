use Rattle.std.proofs.Common.{length, Some, None, get_or, not, sym, ap, ◌∙◌, arith}
use Rattle.std.specs.Prelude.{is_some}
use Rattle.shortest_paths.specs.Paths.{option_distance, option_path}
use Rattle.shortest_paths.proofs.AllPaths.{length-paths, trace_found, near_where_some}
use Rattle.shortest_paths.proofs.reached.Distances.path.Goals as goal

pub trace-requires-clause-inside : goal.trace-requires-clause-inside
trace-requires-clause-inside c =
    let size = ap length c.self.view_is in
    let same = length-paths c.self.inside.search.arrivals.items c.self.inside.search.distances.items 0 in
    let both = c.self.invariant.size in
    omega arith

pub trace-requires-clause-back : goal.trace-requires-clause-back
trace-requires-clause-back c = c.self.invariant.back c.args.node
    (near_where_some c.self.inside.search.arrivals.items c.self.inside.search.distances.items c.args.node
    (ap (λ paths. is_some (option_distance (get_or paths c.args.node None))) c.self.view_is
    ∙ sym (ap is_some c.of.ensures) ∙ c.is_none.ensures ∙ ap not c.if-is_none.false))

pub returns : goal.returns
returns c = sym (ap (λ paths. option_path (get_or paths c.args.node None)) c.self.view_is)
    ∙ trace_found c.self.inside.search.arrivals.items c.self.inside.search.distances.items c.args.node
    (near_where_some c.self.inside.search.arrivals.items c.self.inside.search.distances.items c.args.node
    (ap (λ paths. is_some (option_distance (get_or paths c.args.node None))) c.self.view_is
    ∙ sym (ap is_some c.of.ensures) ∙ c.is_none.ensures ∙ ap not c.if-is_none.false))
    ∙ ap Some (sym c.in_ok-path.ensures)
