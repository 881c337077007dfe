use Rattle.std.proofs.Common.{◌≡◌, ℕ, ◌≤◌}
use Rattle.std.specs.Prelude.{vec_len}
use Rattle.page_table.specs.Branches.{branch_byte}
use Rattle.page_table.proofs.branch.Branch.keep.Given as goal

abbrev pub invariant-loop-place : goal.invariant-loop-place
invariant-loop-place g l = record {
  long : l._place ≤ vec_len l.self.kept;
  same : (index : ℕ) → branch_byte g.S.Node.byte_at g.S.Node.width l.self index
      ≡ branch_byte g.S.Node.byte_at g.S.Node.width l.fn.self index;
}
