-- The bytes of a leaf.
use Rattle.std.specs.Prelude.{ℕ, slice_index}
use Rattle.page_table.specs.declared.leaf.Leaf.{Leaf}
use Rattle.page_table.specs.declared.leaf.Leaf.TheVariants as leaf

-- the byte of a leaf at an index: its one byte, or the one in the box
abbrev pub leaf_byte : {A : Type 0} → Leaf A → ℕ → ℕ
leaf_byte (leaf.Whole byte) index = byte
leaf_byte (leaf.Bytes bytes) index = slice_index bytes.value index
