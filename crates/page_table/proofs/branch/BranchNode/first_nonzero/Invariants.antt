use Rattle.std.proofs.Common.{◌≡◌, ℕ, ◌-◌, ◌<◌, ◌≤◌}
use Rattle.page_table.specs.Branches.{branch_byte}
use Rattle.page_table.proofs.branch.BranchNode.first_nonzero.Given as goal

-- the bytes before this one are 0
abbrev pub invariant-loop-index : goal.invariant-loop-index
invariant-loop-index g l = record {
  low : l.from ≤ l.index;
  none : (other : ℕ) → l.from ≤ other → other < l.index → branch_byte g.S.Node.byte_at g.S.Node.width l.self other ≡ 0;
}

abbrev pub decreases-loop-index : goal.decreases-loop-index
decreases-loop-index g l = l.to - l.index
