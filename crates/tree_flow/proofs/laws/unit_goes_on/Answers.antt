use Rattle.tree_flow.proofs.Children.{unit_goes_on, followed_down}
use Rattle.tree_flow.proofs.laws.unit_goes_on.Goals as goal

pub returns : goal.returns
returns c = search (unit_goes_on, followed_down)
