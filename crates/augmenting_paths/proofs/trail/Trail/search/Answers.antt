use Rattle.std.proofs.Common.{length, ap, ◌∙◌, arith, length-set}
use Rattle.shortest_paths.proofs.Costs.{head_in, tail_in}
use Rattle.augmenting_paths.specs.declared.trail.Trail.{Trail}
use Rattle.augmenting_paths.proofs.Shipped.{path_listed}
use Rattle.augmenting_paths.proofs.TightPath.{last_residual}
use Rattle.augmenting_paths.proofs.DepthFirst.{trail_goes_on, trail_goes_back}
use Rattle.augmenting_paths.proofs.trail.Trail.search.Goals as goal
use Rattle.augmenting_paths.proofs.trail.Trail.search.Goals.{in-Some+in_ok-push-in-Some, in-None+in-Some-pop}

pub open_ends-requires-clause-path : goal.open_ends-requires-clause-path
open_ends-requires-clause-path g c =
    rw c.deref.ensures.value (path_listed _ _ _ _ _ c.loop-turn.invariant.trail.way.leads)

pub open_ends-requires-clause-arcs : goal.open_ends-requires-clause-arcs
open_ends-requires-clause-arcs g c = c.requires.may.priced.network.arcs_in

pub tail-top-requires : goal.tail-top-requires
tail-top-requires g c =
    let way = rw c.in-Some-pop.ensures.items at c.loop-turn.invariant.trail.way.leads in
    rw c.all_arcs.ensures.value (last_residual _ _ c.pop.new.self.items c.in-Some-pop.arc _ _ way).listed

pub loop-turn-preserved : goal.loop-turn-preserved
loop-turn-preserved g c =
    let old = c.loop-turn.invariant in
    let size = c.requires.may.priced.size in
    let same = ap (λ (t : Trail). length t.closed.items) c.next.ensures.left in
    elim c.match-next.branch [
      | in-Some+in_ok-push-in-Some w ↦
          let on = w.in-Some.ensures.goes_on in
          let inside = head_in _ c.args.network.now.arcs w.in-Some.arc c.requires.may.priced.network.arcs_in
          on.open_arc.residual.listed in
          record {
            nodes = rw w.self-is (record {
              closed = ap length w.enter-in-Some.ensures.closed ∙ length-set _ _ _ ∙ same ∙ old.nodes.closed;
              left = w.enter-in-Some.ensures.left ∙ c.next.ensures.size ∙ old.nodes.left;
            });
            inside = rw (w.top-is, w.view-top.ensures.to) (omega arith);
            trail = rw (
              w.self-is,
              w.path-is,
              w.top-is,
              w.enter-in-Some.ensures.closed,
              w.view-top.ensures.to,
              w.in_ok-push-in-Some.ensures.items,
              c.next.ensures.left,
            )
                (trail_goes_on old.trail on
                (let all = old.nodes.closed in omega arith));
          }
      | in-None+in-Some-pop w ↦
          let trail = rw w.in-Some-pop.ensures.items at old.trail in
          let inside = tail_in _ c.args.network.now.arcs w.in-Some-pop.arc
          c.requires.may.priced.network.arcs_in
          (last_residual _ _ w.pop.new.self.items w.in-Some-pop.arc _ _ trail.way.leads).listed in
          record {
            nodes = rw w.self-is (record {
              closed = same ∙ old.nodes.closed;
              left = c.next.ensures.size ∙ old.nodes.left;
            });
            inside = rw (w.top-is, w.tail-top.ensures, w.all_arcs.ensures.value) (omega arith);
            trail = rw (
              w.self-is,
              w.path-is,
              w.top-is,
              w.tail-top.ensures,
              w.all_arcs.ensures.value,
              c.next.ensures.left,
            ) (trail_goes_back w.pop.new.self.items _ trail);
          }
    ]
