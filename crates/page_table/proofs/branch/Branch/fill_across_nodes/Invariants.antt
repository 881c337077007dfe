use Rattle.std.proofs.Common.{◌*◌, ◌-◌, ◌≤◌}
use Rattle.page_table.specs.Nodes.{IsFilled}
use Rattle.page_table.specs.declared.branch.TheConstants.{NODES}
use Rattle.page_table.specs.Branches.{branch_byte}
use Rattle.page_table.proofs.branch.Branch.fill_across_nodes.Given as goal

-- the bytes before this one are set
abbrev pub invariant-loop-at : goal.invariant-loop-at
invariant-loop-at g l = record {
  low : l.from ≤ l.at;
  high : l.at ≤ l.to;
  filled : IsFilled (NODES * g.S.Node.width) (branch_byte g.S.Node.byte_at g.S.Node.width l.initial.self)
      (branch_byte g.S.Node.byte_at g.S.Node.width l.self) l.from l.at l.byte;
}

abbrev pub decreases-loop-at : goal.decreases-loop-at
decreases-loop-at g l = l.to - l.at
