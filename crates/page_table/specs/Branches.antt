-- The bytes of a branch.
use Rattle.std.specs.Prelude.{ℕ, ◌*◌, ◌/◌, ◌%◌, map, slice_index_or}
use Rattle.page_table.specs.declared.branch.TheConstants.{NODES}
use Rattle.page_table.specs.declared.branch.Branch.{Branch}
use Rattle.page_table.specs.Nodes.{IsFilled, IsFilledInPart}

-- the byte of a branch at an index, by how a node has its bytes, and by the nodes' width:
-- that of the node in which the index lies, and the rest's byte where that node is not kept
abbrev pub branch_byte : {S A : Type 0} → (S → ℕ → ℕ) → ℕ → Branch S A → ℕ → ℕ
branch_byte byte_at width branch index =
    slice_index_or (map (λ node. byte_at node (index % width)) branch.kept.items)
    (index / width) branch.rest

-- a branch's bytes from one index up to another are this byte now, and the others what they were
abbrev pub FillsBranch :
    {S A : Type 0} → (S → ℕ → ℕ) → ℕ → Branch S A → Branch S A → ℕ → ℕ → ℕ → Type 0
FillsBranch byte_at width old new from to byte =
    IsFilled (NODES * width)
    (branch_byte byte_at width old) (branch_byte byte_at width new) from to byte

-- the same, but broken off at an index whose byte had still to change
abbrev pub FillsBranchBelow :
    {S A : Type 0} → (S → ℕ → ℕ) → ℕ → Branch S A → Branch S A → ℕ → ℕ → ℕ → Type 0
FillsBranchBelow byte_at width old new from to byte =
    IsFilledInPart (NODES * width)
    (branch_byte byte_at width old) (branch_byte byte_at width new) from to byte
