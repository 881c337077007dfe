-- The tags of a tree of lines.
use Rattle.std.specs.Prelude.{ℕ, ◌*◌, ◌^◌, Option}
use Rattle.line_map.specs.declared.tag.Tag.{Tag}
use Rattle.line_map.specs.declared.leaf.TheConstants.{LINES}
use Rattle.line_map.specs.declared.branch.TheConstants.{NODES}
use Rattle.line_map.specs.declared.tree.Tree.{Tree}
use Rattle.line_map.specs.Leaves.{leaf_tag}
use Rattle.line_map.specs.Branches.{branch_tag}

-- how many lines a node has, by its levels of branches: none for a leaf
abbrev pub width_over : ℕ → ℕ
width_over levels = NODES ^ levels * LINES

-- the tag of a line
unfoldable pub tree_tag : {A : Type 0} → Tree A → ℕ → Option Tag
tree_tag tree line =
    branch_tag (branch_tag (branch_tag (branch_tag (branch_tag
    leaf_tag (width_over 0)) (width_over 1)) (width_over 2)) (width_over 3))
    (width_over 4) tree.root line
