use Rattle.std.proofs.Common.{List, [], ◌∷◌, ◌++◌, get_or, set, get_or-set_same, sym, ap, ◌∙◌}
use Rattle.std.proofs.lemmas.List.{get_or_read}
use Rattle.flow_network.specs.declared.arcs.ArcNo.{ArcNo}
use Rattle.flow_network.proofs.Listing.{undone}
use Rattle.flow_network.proofs.leaving.unlist.Goals as goal

pub returns : goal.returns
returns c before arc l listed =
    let node = c.args.node in
    let longer = get_or before node [] ++ arc ∷ [] in
    let was =
    sym c.index-leaving-node.is ∙ get_or_read _ _ _ c.requires c.index-leaving-node.is [] in
    let here = ap (λ (xs : List (List ArcNo)). get_or xs node []) listed
    ∙ get_or-set_same before node longer [] l in
    ap (λ (xs : List (List ArcNo)). set xs node c.take_back.new.self) listed
    ∙ undone before node longer c.take_back.new.self
    (c.take_back.ensures (get_or before node []) arc (was ∙ here))
