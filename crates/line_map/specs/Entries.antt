-- What a map is as a list: the entries of its lines, in order. No public contract cites this.
use Rattle.std.specs.Prelude.{◌≡◌, ℕ, zero, suc, ◌+◌, ◌*◌, ◌^◌, ◌<◌}
use Rattle.std.specs.Prelude.{List, [], ◌∷◌, Option, Some, None}
use Rattle.line_map.specs.declared.tag.Slot.{Slot}
use Rattle.line_map.specs.declared.tag.Tag.{Tag}

-- how many bytes a line has
abbrev pub line_size : ℕ
line_size = 64

-- how many lines the addresses make up
abbrev pub line_count : ℕ
line_count = 2 ^ 41

-- an entry in front of others, where a line has a tag
abbrev pub with_tag : ℕ → Option Tag → List (ℕ × Slot) → List (ℕ × Slot)
with_tag line None entries = entries
with_tag line (Some tag) entries = (line * line_size + tag.offset, tag.slot) ∷ entries

-- the entries of the lines from one on, as many as a count says
unfoldable pub entries_from : (ℕ → Option Tag) → ℕ → ℕ → List (ℕ × Slot)
entries_from tags line zero = []
entries_from tags line (suc count) =
    with_tag line (tags line) (entries_from tags (line + 1) count)

-- the entries of all lines
unfoldable pub entries_of : (ℕ → Option Tag) → List (ℕ × Slot)
entries_of tags = entries_from tags 0 line_count

-- each tag's address lies in its line
abbrev pub AreInLine : (ℕ → Option Tag) → Type 0
AreInLine tags =
    (line : ℕ) (tag : Tag) → line < line_count → tags line ≡ Some tag → tag.offset < line_size
