-- The tags of a leaf.
use Rattle.std.specs.Prelude.{ℕ, ◌%◌, ◌^◌, ◌==◌, if◌then◌else◌, count_ones}
use Rattle.std.specs.Prelude.{Bool, Option, None, option_map, slice_get}
use Rattle.std.specs.Int.{bit_at}
use Rattle.line_map.specs.declared.tag.Tag.{Tag}
use Rattle.line_map.specs.Tags.{tag_of}
use Rattle.line_map.specs.declared.leaf.Leaf.{Leaf}

-- whether a line has an entry: whether its bit is set
abbrev pub has_entry : ℕ → ℕ → Bool
has_entry lines line = bit_at lines line == 1

-- how many of the lines below one have an entry
abbrev pub entries_below : ℕ → ℕ → ℕ
entries_below lines line = count_ones (lines % 2 ^ line)

-- the tag of a line of a leaf: that of its entry, which comes after the entries of the lines below
abbrev pub leaf_tag : {A : Type 0} → Leaf A → ℕ → Option Tag
leaf_tag leaf line =
    if has_entry leaf.lines line
    then option_map tag_of (slice_get leaf.entries.items (entries_below leaf.lines line))
    else None
