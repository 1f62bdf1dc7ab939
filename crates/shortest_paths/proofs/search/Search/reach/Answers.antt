use Rattle.std.proofs.Common.{ℕ, ◌<◌, List, ◌∙◌, arith}
use Rattle.std.proofs.lemmas.List.{get_or_default}
use Rattle.shortest_paths.specs.Searching.{distance_at}
use Rattle.shortest_paths.specs.ToSink.{far}
use Rattle.shortest_paths.proofs.Listing.{reached_again, reached_first}
use Rattle.shortest_paths.proofs.search.Search.reach.Goals as goal
use Rattle.shortest_paths.proofs.search.Search.reach.Goals.{then-index+in_ok-push, else-index}

pub returns-clause-listed : goal.returns-clause-listed
returns-clause-listed c = λ t.
    let held : List ℕ = c.args.self.now.distances.items in
    elim c.if-index.branch [
      | then-index+in_ok-push w ↦ rw (w.self-is, w.in_ok-push.ensures.items)
          (reached_first held c.args.self.now.reached.items c.args.node c.args.distance c.requires.distances
          t)
      | else-index w ↦
          (let is = c.index.ensures ∙ get_or_default held c.args.node c.index.result.now far
          c.requires.distances in
          let other = w.if-index.false in
          let near : distance_at held c.args.node < far = omega arith in
          rw w.self-is (reached_again held c.args.self.now.reached.items c.args.node c.args.distance near t))
    ]
