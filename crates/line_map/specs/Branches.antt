-- The tags of a branch.
use Rattle.std.specs.Prelude.{ℕ, ◌/◌, ◌%◌, ◌-◌, nat_lt, if◌then◌else◌}
use Rattle.std.specs.Prelude.{List, map, Option, None, slice_index_or}
use Rattle.line_map.specs.declared.tag.Tag.{Tag}
use Rattle.line_map.specs.declared.branch.Branch.{Branch}

-- the tag of a line of one node, of the one at a place among some; none past the last of them
abbrev pub tag_among : {S : Type 0} → (S → ℕ → Option Tag) → List S → ℕ → ℕ → Option Tag
tag_among tag_at nodes place line =
    slice_index_or (map (λ node. tag_at node line) nodes) place None

-- the tag of a line of nodes that lie side by side and of which some are kept: that of the kept
-- node in which the line lies. The first that is kept has this number
abbrev pub nodes_tag : {S : Type 0} → (S → ℕ → Option Tag) → ℕ → ℕ → List S → ℕ → Option Tag
nodes_tag tag_at width first nodes line =
    if nat_lt (line / width) first then None
    else tag_among tag_at nodes (line / width - first) (line % width)

-- the tag of a line of a branch
abbrev pub branch_tag : {S A : Type 0} → (S → ℕ → Option Tag) → ℕ → Branch S A → ℕ → Option Tag
branch_tag tag_at width branch line =
    nodes_tag tag_at width branch.first branch.kept.items line
