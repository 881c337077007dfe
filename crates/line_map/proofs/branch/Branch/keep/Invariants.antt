use Rattle.std.proofs.Common.{◌≡◌, ℕ, ◌+◌, ◌≤◌}
use Rattle.std.specs.Prelude.{vec_len}
use Rattle.line_map.specs.Branches.{branch_tag}
use Rattle.line_map.proofs.branch.Branch.keep.Given as goal

abbrev pub invariant-loop-self : goal.invariant-loop-self
invariant-loop-self g l =
    (line : ℕ) → branch_tag g.S.Node.tag_at g.S.Node.width l.self line
    ≡ branch_tag g.S.Node.tag_at g.S.Node.width l.fn.self line

abbrev pub decreases-loop-self : goal.decreases-loop-self
decreases-loop-self g l = l.self.first

abbrev pub invariant-loop-place : goal.invariant-loop-place
invariant-loop-place g l = record {
  at : l.node ≡ l.self.first + l.place;
  long : l._place ≤ vec_len l.self.kept;
  same : (line : ℕ) → branch_tag g.S.Node.tag_at g.S.Node.width l.self line
      ≡ branch_tag g.S.Node.tag_at g.S.Node.width l.fn.self line;
}
