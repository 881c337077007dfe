use Rattle.std.specs.Prelude.{IsSome}
use Rattle.line_map.specs.Maps.{slot_at}
use Rattle.line_map.specs.Entries.{entries_of}
use Rattle.line_map.specs.Trees.{tree_tag}
use Rattle.line_map.proofs.Found.{tagged, of-remove, in-line-gone}
use Rattle.line_map.proofs.map.LineMap.remove.Goals as goal

pub remove-requires : goal.remove-requires
remove-requires g c =
    let there : IsSome (slot_at (entries_of (tree_tag c.self.inside.tree)) c.args.at) = rw c.self.view_is c.requires in
    (tagged (tree_tag c.self.inside.tree) c.self.invariant c.args.at there).0

pub invariant_of-self : goal.invariant_of-self
invariant_of-self g c = in-line-gone (tree_tag c.self.inside.tree) (tree_tag c.remove.new.self) c.args.at
    c.self.invariant c.remove.ensures

pub returns : goal.returns
returns g c =
    let tags = tree_tag c.self.inside.tree in
    let there : IsSome (slot_at (entries_of tags) c.args.at) = rw c.self.view_is c.requires in
    let had = tagged tags c.self.invariant c.args.at there in
    rw (← c.self.view_is) (of-remove tags (tree_tag c.remove.new.self) c.args.at had.1.0 c.self.invariant
    c.remove.ensures had.1.1 had.1.2 had.0)
