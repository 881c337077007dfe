use Rattle.std.proofs.Common.{count_ones, ap}
use Rattle.std.proofs.lemmas.Nat.{and_mask}
use Rattle.line_map.proofs.leaf.Leaf.place_of.Goals as goal

pub returns : goal.returns
returns g c = rw c.bit.ensures (ap count_ones (and_mask c.args.self.now.lines c.args.line))
