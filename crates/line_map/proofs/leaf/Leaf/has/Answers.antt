use Rattle.line_map.proofs.Leaves.{has_test}
use Rattle.line_map.proofs.leaf.Leaf.has.Goals as goal

pub returns : goal.returns
returns g c = rw c.bit.ensures (has_test c.args.self.now.lines c.args.line)
