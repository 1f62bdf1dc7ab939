use Rattle.std.proofs.Common.{◌++◌, ◌∷◌, [], ◌∙◌, sym, ap, arith, refl}
use Rattle.std.specs.Vec.{with_item}
use Rattle.std.proofs.lemmas.List.{get_or_default, length-set}
use Rattle.tree_planner.proofs.Hung.{hung_rack, hung_centre, hung_cluster}
use Rattle.tree_planner.proofs.children.hang.Goals as goal

pub returns-in_ok-push_to-in-Rack : goal.returns-in_ok-push_to-in-Rack
returns-in_ok-push_to-in-Rack c =
    let old = c.args.children.now in
    let r = c.in-Rack.rack in
    let known = c.in-Rack.ensures.known in
    let sized = c.requires.sized in
    let racks = sized.racks in
    record {
      sized = record { racks = length-set old.racks.items r c.push_to.new.row ∙ sized.racks; centres = sized.centres };
      hangs = hung_rack c.args.tree.now old (record old { racks = with_item old.racks r c.push_to.new.row }) c.args.node r c.push_to.new.row (record {
        known = c.requires.known;
        below = λ e. c.in_default.not-Cluster e;
        above = sym c.in-Rack.ensures.node;
      }) (omega arith) refl refl refl refl
          (c.in_ok-push_to-in-Rack.ensures ∙ ap (λ xs. xs ++ c.args.node ∷ [])
          (c.index_mut.ensures.value ∙ get_or_default old.racks.items r c.index_mut.result.now [] (omega arith)));
    }

pub returns-in_ok-push_to-in-Centre : goal.returns-in_ok-push_to-in-Centre
returns-in_ok-push_to-in-Centre c =
    let old = c.args.children.now in
    let r = c.in-Centre.centre in
    let known = c.in-Centre.ensures.known in
    let sized = c.requires.sized in
    let centres = sized.centres in
    record {
      sized = record {
        racks = sized.racks;
        centres = length-set old.centres.items r c.push_to-in-Centre.new.row ∙ sized.centres;
      };
      hangs = hung_centre c.args.tree.now old (record old { centres = with_item old.centres r c.push_to-in-Centre.new.row }) c.args.node r c.push_to-in-Centre.new.row (record {
        known = c.requires.known;
        below = λ e. c.in_default.not-Cluster e;
        above = sym c.in-Centre.ensures.node;
      }) (omega arith) refl refl refl refl
          (c.in_ok-push_to-in-Centre.ensures ∙ ap (λ xs. xs ++ c.args.node ∷ [])
          (c.index_mut-in-Centre.ensures.value
          ∙ get_or_default old.centres.items r c.index_mut-in-Centre.result.now [] (omega arith)));
    }

pub returns-in_ok-push_to-in-Cluster-parent : goal.returns-in_ok-push_to-in-Cluster-parent
returns-in_ok-push_to-in-Cluster-parent c = record {
  sized = record { racks = c.requires.sized.racks; centres = c.requires.sized.centres };
  hangs = hung_cluster c.args.tree.now c.args.children.now
      (record c.args.children.now { cluster = c.push_to-in-Cluster-parent.new.row }) c.args.node 0 c.push_to-in-Cluster-parent.new.row (record {
        known = c.requires.known;
        below = λ e. c.in_default.not-Cluster e;
        above = sym c.in-Cluster-parent.ensures.node;
      }) refl refl refl refl c.in_ok-push_to-in-Cluster-parent.ensures;
}
