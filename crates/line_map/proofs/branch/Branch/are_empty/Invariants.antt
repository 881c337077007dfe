use Rattle.std.proofs.Common.{◌≡◌, ℕ, ◌+◌, ◌/◌, ◌<◌, None}
use Rattle.line_map.specs.Branches.{branch_tag}
use Rattle.line_map.proofs.branch.Branch.are_empty.Given as goal

-- the nodes before this one have no tags
abbrev pub invariant-loop-node : goal.invariant-loop-node
invariant-loop-node g l =
    (line : ℕ) → line / g.S.Node.width < l.self.first + l.node-index
    → branch_tag g.S.Node.tag_at g.S.Node.width l.self line ≡ None
