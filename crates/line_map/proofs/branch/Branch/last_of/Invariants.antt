use Rattle.std.proofs.Common.{◌≡◌, ℕ, ◌+◌, ◌*◌, ◌<◌, ◌≤◌, None, length}
use Rattle.line_map.specs.Branches.{branch_tag}
use Rattle.line_map.proofs.branch.Branch.last_of.Given as goal

-- the lines from this node on have no tags
abbrev pub invariant-loop-place : goal.invariant-loop-place
invariant-loop-place g l = record {
  width : l.width ≡ g.S.Node.width;
  below : 0 < l.place → l.self.first + l.place ≤ l.end;
  kept : l.place ≤ length l.self.kept.items;
  none : (line : ℕ) → (l.self.first + l.place) * g.S.Node.width ≤ line → line < l.end * g.S.Node.width
      → branch_tag g.S.Node.tag_at g.S.Node.width l.self line ≡ None;
}

abbrev pub decreases-loop-place : goal.decreases-loop-place
decreases-loop-place g l = l.place
