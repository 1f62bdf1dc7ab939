use Rattle.std.proofs.Common.{◌≡◌, ◌∙◌, ap, arith, inl, refl, sym}
use Rattle.tree_flow.specs.declared.nodes.Place.TheVariants.{Stands}
use Rattle.tree_flow.specs.State.{place_of, reach_cost}
use Rattle.tree_flow.specs.declared.nodes.End.{End}
use Rattle.tree_planner.specs.SearchingBack.{far_at, state_at, wave_of}
use Rattle.tree_planner.proofs.ImprovedBack.{room_left}
use Rattle.tree_planner.proofs.back.step_over.Goals as goal

pub returns-in-Stands-clause-searching : goal.returns-in-Stands-clause-searching
returns-in-Stands-clause-searching c =
    let h = c.args.hollow.now in
    let from = c.in-Stands.from in
    let stands : place_of (state_at h) c.args.split ≡ Stands from = sym c.place_of.ensures ∙ c.in-Stands.is in
    c.reach.ensures.kept h c.requires.searching (c.requires.hollow.standing.tables.known c.args.split from stands)
    (λ none. record {
      from = from;
      stands = stands;
      at = refl;
      is_end = c.requires.is_end;
      before = (c.requires.at.settled, inl none);
      cost =
          (let least = c.requires.hollow.standing.kept.cheapest.least c.args.split from c.args.end stands
          c.requires.is_end in
          omega arith);
    })

pub reach-requires-clause-room : goal.reach-requires-clause-room
reach-requires-clause-room c =
    let from = c.in-Stands.from in
    let stands : place_of (state_at c.args.hollow.now) c.args.split ≡ Stands from =
    sym c.place_of.ensures ∙ c.in-Stands.is in
    room_left c.args.hollow.now c.args.search.now c.requires.searching from.node
    (c.requires.hollow.standing.tables.known c.args.split from stands)

pub reach-requires-clause-beyond : goal.reach-requires-clause-beyond
reach-requires-clause-beyond c = λ u some.
    (let from = c.in-Stands.from in
    let stands : place_of (state_at c.args.hollow.now) c.args.split ≡ Stands from =
    sym c.place_of.ensures ∙ c.in-Stands.is in
    let least = c.requires.hollow.standing.kept.cheapest.least c.args.split from c.args.end stands c.requires.is_end in
    let last = c.requires.at.last u some in
    omega arith)

pub returns-in-Stands-clause-over : goal.returns-in-Stands-clause-over
returns-in-Stands-clause-over c =
    let h = c.args.hollow.now in
    let from = c.in-Stands.from in
    let stands : place_of (state_at h) c.args.split ≡ Stands from = sym c.place_of.ensures ∙ c.in-Stands.is in
    let least = c.requires.hollow.standing.kept.cheapest.least c.args.split from c.args.end stands c.requires.is_end in
    let near = c.reach.ensures.near in
    let same_far = c.reach.ensures.improves.nearer.settled c.args.end.node c.requires.at.settled in
    record {
      over = λ e there is.
          (let same : from ≡ e = grind arith in
          let far = ap (λ (e : End). far_at c.reach.new.self e.node) same in
          let cost = ap (λ e. reach_cost (wave_of h) (state_at h) c.args.split e) same in
          omega arith);
      waits = λ waits is. cc;
    }
