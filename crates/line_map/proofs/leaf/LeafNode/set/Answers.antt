use Rattle.line_map.proofs.Leaves.{replaced, one_there}
use Rattle.line_map.proofs.leaf.LeafNode.set.Goals as goal

pub returns : goal.returns
returns g c index below =
    let leaf = c.args.self.now in
    rw c.place_of-place.ensures
    (replaced leaf.lines leaf.entries.items c.args.line c.new.result c.args.tag c.new.ensures leaf.counted
    (one_there leaf.lines leaf.entries.items c.args.line c.requires.there) index)
