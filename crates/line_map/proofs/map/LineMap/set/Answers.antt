use Rattle.std.proofs.Common.{◌%◌, refl, arith}
use Rattle.std.specs.Prelude.{IsSome}
use Rattle.line_map.specs.Maps.{slot_at}
use Rattle.line_map.specs.Entries.{entries_of}
use Rattle.line_map.specs.Trees.{tree_tag}
use Rattle.line_map.proofs.Found.{tagged, of-set, in-line-put}
use Rattle.line_map.proofs.map.LineMap.set.Goals as goal

pub set-requires-clause-within : goal.set-requires-clause-within
set-requires-clause-within g c =
    let there : IsSome (slot_at (entries_of (tree_tag c.self.inside.tree)) c.args.at) = rw c.self.view_is c.requires in
    (tagged (tree_tag c.self.inside.tree) c.self.invariant c.args.at there).0

pub set-requires-clause-there : goal.set-requires-clause-there
set-requires-clause-there g c =
    let there : IsSome (slot_at (entries_of (tree_tag c.self.inside.tree)) c.args.at) = rw c.self.view_is c.requires in
    let had = (tagged (tree_tag c.self.inside.tree) c.self.invariant c.args.at there).1 in
    rw had.1 refl

pub invariant_of-self : goal.invariant_of-self
invariant_of-self g c =
    in-line-put (tree_tag c.self.inside.tree) (tree_tag c.set.new.self) c.args.at
    (record { offset = c.args.at % 64; slot = c.args.slot }) (omega arith) c.self.invariant c.set.ensures

pub returns : goal.returns
returns g c =
    let tags = tree_tag c.self.inside.tree in
    let there : IsSome (slot_at (entries_of tags) c.args.at) = rw c.self.view_is c.requires in
    let had = tagged tags c.self.invariant c.args.at there in
    rw (← c.self.view_is) (of-set tags (tree_tag c.set.new.self) c.args.at c.args.slot had.1.0 c.self.invariant
    c.set.ensures had.1.1 had.1.2 had.0)
