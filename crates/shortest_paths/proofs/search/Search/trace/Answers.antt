use Rattle.std.proofs.Common.{◌≡◌, ◌-◌, List, [], ◌∷◌, ◌++◌, reverse, append_assoc, sym, ap, ◌∙◌, arith}
use Rattle.std.proofs.lemmas.List.{get_or_default, reverse-append}
use Rattle.flow_network.specs.declared.arcs.ArcNo.{ArcNo}
use Rattle.shortest_paths.specs.Searching.{no_arrival, arrival_at, trace_of}
use Rattle.shortest_paths.proofs.Listing.{back_one}
use Rattle.shortest_paths.proofs.search.Search.trace.Goals as goal

pub back-preserved : goal.back-preserved
back-preserved c =
    let one = back_one c.args.self.now.arrivals.items c.back.here c.back.left
    (omega arith) c.back.invariant.back in
    let last : c.index-last.result.now ≡ arrival_at c.args.self.now.arrivals.items c.back.here =
    c.index-last.ensures ∙ get_or_default c.args.self.now.arrivals.items c.back.here c.index-last.result.now
    no_arrival one.0 in
    let path : List ArcNo = c.back.path.items in
    let before : List ArcNo = trace_of c.args.self.now.arrivals.items
    (arrival_at c.args.self.now.arrivals.items c.back.here).before (c.back.left - 1) in
    let arc : ArcNo = (arrival_at c.args.self.now.arrivals.items c.back.here).arc in
    record {
      back = rw last one.1;
      path = rw (c.in_ok-push.ensures.items, last, reverse-append path (arc ∷ []))
          (sym (append_assoc before (arc ∷ []) (reverse path)) ∙ ap (λ xs. xs ++ reverse path) (sym one.2)
          ∙ c.back.invariant.path);
    }
