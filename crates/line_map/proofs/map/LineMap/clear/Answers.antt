use Rattle.line_map.specs.Trees.{tree_tag}
use Rattle.line_map.proofs.Found.{of-none}
use Rattle.line_map.proofs.map.LineMap.clear.Goals as goal

pub returns : goal.returns
returns g c = of-none (tree_tag c.empty.result) c.empty.ensures
