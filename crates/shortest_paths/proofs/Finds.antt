-- What a search that ended leaves for its callers.
use Rattle.std.proofs.Common.{◌≡◌, ℕ, ◌<◌, [], ◌∷◌, length, Option, Some, None, sym, subst, refl, arith}
use Rattle.std.specs.Prelude.{slice_index, IfSome, IsSome}
use Rattle.shortest_paths.specs.Finding.{IsTotal, IsFinished}
use Rattle.shortest_paths.specs.Search.{EndsSearch}
use Rattle.shortest_paths.specs.Searching.{Problem, Tables, distance_at, IsLeft, trace_to}
use Rattle.shortest_paths.specs.ToSink.{far, IsSearched, IsLeastCost, IsTrace}
use Rattle.shortest_paths.proofs.ToSink.{searched_is_least}
use Rattle.shortest_paths.proofs.SearchEnds.{trace_is, ends_at_sink, ends_with_none, is_left, leads_back}

-- the answer of the search, the path that it goes back, and what is forgotten next
pub record Finds (p : Problem) (t : Tables) (found : Option ℕ) : Type 0 where
  pub total : IsTotal found (distance_at t.distances p.sink)
  pub searched : IsSearched p.arcs p.flows (slice_index p.depths) p.start p.sink (distance_at t.distances)
  pub least : IfSome found (λ total. IsLeastCost p.arcs p.flows (slice_index p.depths) p.start p.sink total)
  pub path : IsSome found → IsTrace p.arcs p.flows (slice_index p.depths) p.start p.sink
      (distance_at t.distances) (trace_to t.arrivals p.sink)
  pub size : length t.distances ≡ length p.depths
  pub kept : IsFinished t p.sink found

pub finds : {p : Problem} (count : ℕ) {t : Tables} {found : Option ℕ} → p.sink < length p.depths
    → EndsSearch found p count t → Finds p t found
finds {p = p} count {t = t} {found = (Some total)} inside e =
    let r = e.1 in
    let end = ends_at_sink p (length p.depths) total count e.0 t r in
    let here = end.1 in
    let in_level = end.2 in
    let near : distance_at t.distances p.sink < far = omega arith in
    let size = r.reached.size in
    record {
      total = (sym here, in_level);
      searched = end.0;
      least = subst (λ total'. IsLeastCost p.arcs p.flows (slice_index p.depths) p.start p.sink total') here
          ((searched_is_least p.arcs p.flows (slice_index p.depths) p.start p.sink
          (distance_at t.distances) end.0).0 near);
      path = λ _. trace_is p (length p.depths) total t.distances t.arrivals t.settled r.reached near;
      size = size;
      kept = record {
        left = subst (λ n. IsLeft n t) (sym size)
            (is_left p (length p.depths) total count (p.sink ∷ []) e.0 t r);
        sink_in = omega arith;
        back = λ _. leads_back p (length p.depths) total t r.reached _ p.sink near refl;
      };
    }
finds {p = p} count {t = t} {found = None} inside e =
    let r = e.1 in
    let end = ends_with_none p (length p.depths) e.0 count t r e.2 e.3 in
    let size = r.reached.size in
    grind arith
